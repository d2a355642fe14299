-- The text of a refutation, and of the clash that ends a search whose budget is spent. Both are this project's own,
-- after LRAT; the numbers are decimal without leading zeros.

use Rattle.std.specs.Prelude.{ℕ, ℤ, ◌+◌, ◌==◌, if◌then◌else◌, List, [], ◌∷◌, ◌++◌, codes, decimal, flat_map}
use Rattle.std.specs.Fmt.{signed_decimal}
use Rattle.clause_base.specs.declared.line.Line.{Line}
use Rattle.clause_base.specs.declared.entry.Entry.{Entry}
use Rattle.clause_base.specs.declared.clash.Clash.{Clash}

-- a number, with the space behind it
abbrev pub number_word : ℕ → List ℕ
number_word n = decimal n ++ codes " "

-- a literal, with the space behind it
abbrev pub literal_word : ℤ → List ℕ
literal_word z = signed_decimal z ++ codes " "

-- the line of a number: the number, each literal, 0, each hint, 0, with one space between, and LF
abbrev pub line_text : ℕ → Line → List ℕ
line_text number line =
    number_word number ++ flat_map literal_word line.clause ++ codes "0 " ++ flat_map number_word line.hints ++ codes "0\n"

-- lines numbered one after another from a number on
unfoldable pub lines_text : ℕ → List Line → List ℕ
lines_text number [] = []
lines_text number (line ∷ lines) = line_text number line ++ lines_text (number + 1) lines

-- a refutation of a list of m clauses: the numbers of its lines follow those of the clauses
abbrev pub refutation_text : ℕ → List Line → List ℕ
refutation_text m lines = lines_text (m + 1) lines

-- an entry of a clash: `d LIT` for a decision, or `i LIT NUMBER` for an implied literal with its reason
abbrev pub entry_text : Entry → List ℕ
entry_text entry =
    if entry.reason == 0 then codes "d " ++ signed_decimal entry.lit ++ codes "\n"
    else codes "i " ++ literal_word entry.lit ++ decimal entry.reason ++ codes "\n"

-- a clash: its entries in order, and `x NUMBER` for the clause that is false under them
abbrev pub clash_text : Clash → List ℕ
clash_text clash = flat_map entry_text clash.steps ++ codes "x " ++ decimal clash.clause ++ codes "\n"

-- a search whose budget is spent: its lines, and then the clash
abbrev pub part_text : ℕ → List Line → Clash → List ℕ
part_text m lines clash = refutation_text m lines ++ clash_text clash
