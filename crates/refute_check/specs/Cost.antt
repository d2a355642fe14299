-- How many literals of a source's clauses the lines of a text may ask for: for each hint that names a clause of the
-- source, the literals of that clause. A hint that names an earlier line asks for none.

use Rattle.std.specs.Prelude.{ℕ, ℤ, List, length}
use Rattle.std.specs.List.{sum_by}
use Rattle.ref_text.specs.Form.{form}
use Rattle.ref_text.specs.Fault.{line_of}
use Rattle.refute_check.specs.Hints.{clause_at}

-- the literals of the clause that a hint names, of these clauses
abbrev pub hint_cost : List (List ℤ) → ℕ → ℕ
hint_cost clauses hint = length (clause_at clauses hint)

-- the same of hints
abbrev pub hints_cost : List (List ℤ) → List ℕ → ℕ
hints_cost clauses hints = sum_by (hint_cost clauses) hints

-- the same of the hints of a line of a text
abbrev pub line_cost : List (List ℤ) → List ℕ → ℕ
line_cost clauses line = hints_cost clauses (line_of (form line)).hints

-- the same of all lines
abbrev pub lines_cost : List (List ℤ) → List (List ℕ) → ℕ
lines_cost clauses lines = sum_by (line_cost clauses) lines
