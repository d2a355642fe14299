-- The text that tells that a file was not saved. This project's own choice. It is here, where files are saved; the
-- other texts of files are in `Texts` of the crate `replies`.
use Rattle.std.specs.Prelude.{ℕ, List, ◌++◌, codes}

-- the text that tells that a file was not saved
abbrev pub cannot_save : List ℕ → List ℕ
cannot_save name = codes "cannot save " ++ name ++ codes "\n"
