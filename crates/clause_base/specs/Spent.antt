-- A spent budget: as many new lines as were allowed, and a clash that shows that no decision came too early. It is
-- judged against the list and the lines, and is this project's own.

use Rattle.std.specs.Prelude.{ℕ, ℤ, ◌<◌, ◌≡◌, ◌≢◌, List, [], length, take, slice_get, Some, All, Any, AllPairs, Contains}
use Rattle.clause_base.specs.Lit.{var_of}
use Rattle.clause_base.specs.Clauses.{Clauses}
use Rattle.clause_base.specs.Truth.{lits_of, AreSettled, IsConflict, Forces}
use Rattle.clause_base.specs.Refutation.{AreDerived, with_lines}
use Rattle.clause_base.specs.declared.line.Line.{Line}
use Rattle.clause_base.specs.declared.entry.Entry.{Entry}
use Rattle.clause_base.specs.declared.clash.Clash.{Clash}

-- the clause is new: it holds all literals of none of these
abbrev pub IsNew : List (List ℤ) → List ℤ → Type 0
IsNew clauses clause = (n : ℕ) (c : List ℤ) → slice_get clauses n ≡ Some c → All (λ z. Contains clause z) c → ⊥

-- each line is new to the list and the lines before it
abbrev pub AreNew : Clauses → List Line → Type 0
AreNew list lines = (k : ℕ) (line : Line) → slice_get lines k ≡ Some line → IsNew (with_lines list (take k lines)).clauses line.clause

-- a clash: the variables differ, some entry is a decision, each implied literal is the unassigned one of its
-- reason, which is unit under the entries before it, and a clause is false under all entries
pub record IsClash (clauses : List (List ℤ)) (clash : Clash) : Type 0 where
  pub apart : AllPairs (λ a b. var_of a ≢ var_of b) (lits_of clash.steps)
  pub decided : Any (λ e. e.reason ≡ 0) clash.steps
  pub implied : (i : ℕ) (e : Entry) → slice_get clash.steps i ≡ Some e → 0 < e.reason
      → Forces (lits_of (take i clash.steps)) clauses e.reason e.lit
  pub conflict : IsConflict (lits_of clash.steps) clauses clash.clause

-- the budget is spent: there are so many lines, each derived, new and with a literal, and a clash of the list and
-- the lines, in which propagation was complete before each decision
pub record Spent (list : Clauses) (lines : List Line) (clash : Clash) (budget : ℕ) : Type 0 where
  pub count : length lines ≡ budget
  pub derived : AreDerived list lines
  pub full : All (λ line. line.clause ≢ []) lines
  pub new : AreNew list lines
  pub ends : IsClash (with_lines list lines).clauses clash
  pub settled : (i : ℕ) (e : Entry) → slice_get clash.steps i ≡ Some e → e.reason ≡ 0
      → AreSettled (lits_of (take i clash.steps)) (with_lines list lines).clauses
