-- What a look at a watching clause finds, and what it does. No public contract cites these.

use Rattle.std.specs.Prelude.{ℕ, ℤ, ◌≡◌, ◌≢◌, ◌+◌, ◌⊎◌, ◌≤◌, take, ◌∷◌, [], ◌++◌, List, length, slice_get, slice_set, Some, None, false, All}
use Rattle.std.specs.List.{swap_remove}
use Rattle.clause_base.specs.Truth.{lits_of, IsConflict}
use Rattle.clause_base.specs.declared.entry.Entry.{Entry}
use Rattle.trail.specs.Assignment.{value_of, level_of}
use Rattle.propagate.specs.Lists.{list_at}
use Rattle.propagate.specs.Watching.{code_of, IsIn, IsPassed, AreLaid, AreGuarded, ArePassed}
use Rattle.propagate.specs.Standing.{AreForced}
use Rattle.propagate.specs.Propagation.{Extends}
use Rattle.propagate.specs.declared.watch_lists.Watch.{Watch}
use Rattle.propagate.specs.declared.pairs.Pair.{Pair}
use Rattle.propagate.specs.declared.visits.Visit.{Visit}
use Rattle.propagate.specs.declared.visits.Visit.TheVariants as visit

-- all literals of the clause but this one are false
abbrev pub AreFalseBesides : List Entry → List ℤ → ℤ → Type 0
AreFalseBesides es clause other = All (λ z. (z ≡ other) ⊎ (value_of z es ≡ Some false)) clause

-- the clause can watch this literal beside the other: it is in the clause, and not false
abbrev pub IsWatchable : List Entry → List ℤ → ℤ → ℤ → Type 0
IsWatchable es clause other z = IsIn clause z × (z ≢ other) × (value_of z es ≢ Some false)

-- the watched literal was implied by the clause of that place, or it is false
abbrev pub IsConcluded : List Entry → List Entry → ℕ → ℤ → Visit → Type 0
IsConcluded old new index watched visit.Kept =
    (value_of watched old ≡ None) × ((e : Entry) × (e.lit ≡ watched) × (e.level ≡ level_of old) × (e.reason ≡ index + 1)
    × (new ≡ old ++ e ∷ []))
IsConcluded old new index watched visit.Moved = ⊥
IsConcluded old new index watched (visit.Conflict n) = (value_of watched old ≢ None) × (n ≡ index + 1) × (new ≡ old)

-- the clause watches the next literal in place of this one, and was handed on to the list of that
pub record IsHandedOn (old new : List (List Watch)) (pairs after : List Pair) (lit next other : ℤ) (place : ℕ)
    (watch : Watch) : Type 0 where
  pub pair : Pair
  pub handed : Watch
  pub first_is : pair.first ≡ next
  pub second_is : pair.second ≡ other
  pub index_is : handed.index ≡ watch.index
  pub blocker_is : handed.blocker ≡ other
  pub after_is : after ≡ slice_set pairs watch.index pair
  pub new_is : let pushed =
      slice_set old (code_of next) (list_at old (code_of next) ++ handed ∷ []) in
      new ≡ slice_set pushed (code_of lit) (swap_remove (list_at pushed (code_of lit)) place watch)

-- what a look at a clause does: it keeps all facts, and those that were looked at before
pub record IsStep (vars : ℕ) (clauses : List (List ℤ)) (old new : List (List Watch)) (pairs after : List Pair) (es later : List Entry)
    (lit : ℤ) (place : ℕ) : Type 0 where
  pub forced : AreForced clauses later
  pub extends : Extends es later
  pub laid : AreLaid vars clauses new after
  pub guarded : (head : ℕ) → AreGuarded clauses old pairs (take head es) es → AreGuarded clauses new after (take head es) later
  pub passed : (count : ℕ) → count ≤ place → ArePassed clauses old pairs es lit count → ArePassed clauses new after later lit count

-- what a look at the clause at a place of the literal's list did
abbrev pub Visits : List (List ℤ) → List (List Watch) → List (List Watch) → List Pair → List Entry → ℤ → ℕ → Visit → Type 0
Visits clauses old new pairs es lit place visit.Kept =
    (length (list_at new (code_of lit)) ≡ length (list_at old (code_of lit))) × ((w : Watch)
    → slice_get (list_at new (code_of lit)) place ≡ Some w → IsPassed clauses pairs es lit w)
Visits clauses old new pairs es lit place visit.Moved = length (list_at new (code_of lit)) + 1 ≡ length (list_at old (code_of lit))
Visits clauses old new pairs es lit place (visit.Conflict n) = IsConflict (lits_of es) clauses n
