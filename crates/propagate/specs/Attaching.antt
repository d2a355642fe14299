-- How a clause comes to its watches. No public contract cites these.

use Rattle.std.specs.Prelude.{ℕ, ℤ, ◌≡◌, neg_ℤ, List, take, length, slice_get, Some}
use Rattle.clause_base.specs.declared.entry.Entry.{Entry}
use Rattle.trail.specs.Assignment.{level_of}
use Rattle.propagate.specs.Watching.{IsGuarded, IsForGood, AreGuarded}
use Rattle.propagate.specs.declared.watch_lists.Watch.{Watch}
use Rattle.propagate.specs.declared.pairs.Pair.{Pair}

-- an entry of the present level makes the literal false
pub record IsFalseAtPresent (es : List Entry) (z : ℤ) : Type 0 where
  pub place : ℕ
  pub entry : Entry
  pub there : slice_get es place ≡ Some entry
  pub negates : z ≡ neg_ℤ entry.lit
  pub present : entry.level ≡ level_of es

-- where both literals are guarded in the clause past the last pair, all is guarded afterwards that was before
abbrev pub KeepsWatched : List (List ℤ) → List (List Watch) → List (List Watch) → List Pair → List Pair → ℤ → ℤ → Type 0
KeepsWatched clauses old new pairs after first second =
    (seen es : List Entry) → ((c : List ℤ) → slice_get clauses (length pairs) ≡ Some c
    → IsGuarded seen es c first × IsGuarded seen es c second) → AreGuarded clauses old pairs seen es
    → AreGuarded clauses new after seen es

-- where the clause past the last pair is true for good, all is guarded afterwards that was before
abbrev pub KeepsTrue : List (List ℤ) → List (List Watch) → List Pair → List Pair → Type 0
KeepsTrue clauses lists pairs after =
    (seen es : List Entry) → ((c : List ℤ) → slice_get clauses (length pairs) ≡ Some c → IsForGood es c)
    → AreGuarded clauses lists pairs seen es → AreGuarded clauses lists after seen es

-- all is guarded afterwards that was before, though entries came
abbrev pub KeepsGuarded : List (List ℤ) → List (List Watch) → List (List Watch) → List Pair → List Pair → List Entry → List Entry → Type 0
KeepsGuarded clauses old new pairs after es later =
    (head : ℕ) → AreGuarded clauses old pairs (take head es) es → AreGuarded clauses new after (take head es) later
