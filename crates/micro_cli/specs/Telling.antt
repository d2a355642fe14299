-- How a search that found no placement is told. Each text is one line (this project's own format).
use Rattle.std.specs.Prelude.{ℕ, List, ◌++◌, codes, decimal}

-- there is a refutation of so many lines
abbrev pub refuted_line : ℕ → List ℕ
refuted_line lines = codes "refuted " ++ decimal lines ++ codes "\n"

-- a budget of so many conflicts was spent
abbrev pub undecided_line : ℕ → List ℕ
undecided_line conflicts = codes "undecided " ++ decimal conflicts ++ codes "\n"
