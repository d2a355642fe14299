-- Derived lines and refutations. A line is judged against the clauses of the list and all earlier lines. The
-- form, hints that are unit one after another, is this project's own after LRAT.

use Rattle.std.specs.Prelude.{ℕ, ℤ, neg_ℤ, ◌<◌, ◌≤◌, ◌≡◌, ◌≢◌, List, [], ◌∷◌, ◌++◌, take, map, slice_get, Some, All, AllPairs}
use Rattle.clause_base.specs.Lit.{var_of}
use Rattle.clause_base.specs.Clauses.{Clauses}
use Rattle.clause_base.specs.Truth.{IsConflict, Forces}
use Rattle.clause_base.specs.declared.line.Line.{Line}

-- each hint but the last is unit and its unassigned literal becomes true; the last, which there must be, is false
abbrev pub IsUnitRun : List (List ℤ) → List ℤ → List ℕ → Type 0
IsUnitRun clauses held [] = ⊥
IsUnitRun clauses held (last ∷ []) = IsConflict held clauses last
IsUnitRun clauses held (hint ∷ (next ∷ rest)) = (z : ℤ) × Forces held clauses hint z × IsUnitRun clauses (held ++ z ∷ []) (next ∷ rest)

-- the line is derived: its literals are of the list's variables, no variable comes twice in it, and from all its
-- literals false the hints lead to a false clause
pub record Derived (list : Clauses) (line : Line) : Type 0 where
  pub above : All (λ z. 0 < var_of z) line.clause
  pub in_range : All (λ z. var_of z ≤ list.vars) line.clause
  pub apart : AllPairs (λ a b. var_of a ≢ var_of b) line.clause
  pub run : IsUnitRun list.clauses (map neg_ℤ line.clause) line.hints

-- the clause of a line
abbrev pub clause_of : Line → List ℤ
clause_of line = line.clause

-- the list with the clauses of the lines after its own
abbrev pub with_lines : Clauses → List Line → Clauses
with_lines list lines = record { vars = list.vars; clauses = list.clauses ++ map clause_of lines }

-- each line is derived from the list and the lines before it
abbrev pub AreDerived : Clauses → List Line → Type 0
AreDerived list lines = (k : ℕ) (line : Line) → slice_get lines k ≡ Some line → Derived (with_lines list (take k lines)) line

-- the lines are a refutation: each is derived, the last has no literal, and every other has one
pub record Refutes (list : Clauses) (lines : List Line) : Type 0 where
  pub derived : AreDerived list lines
  pub front : List Line
  pub last : Line
  pub split : lines ≡ front ++ last ∷ []
  pub full : All (λ line. line.clause ≢ []) front
  pub empty : last.clause ≡ []
