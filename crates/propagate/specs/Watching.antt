-- Two watched literals in each clause, and what they guard. No public contract cites these.

use Rattle.std.specs.Prelude.{ℕ, ℤ, ◌+◌, ◌*◌, ◌<◌, ◌≤◌, ◌≡◌, ◌≢◌, ◌⊎◌, false, if◌then◌else◌, List, length, slice_get, Some}
use Rattle.clause_base.specs.Lit.{var_of, is_positive}
use Rattle.clause_base.specs.Truth.{lits_of, IsSatisfied}
use Rattle.clause_base.specs.declared.entry.Entry.{Entry}
use Rattle.trail.specs.Assignment.{value_of}
use Rattle.propagate.specs.Standing.{up_to}
use Rattle.propagate.specs.Lists.{list_at}
use Rattle.propagate.specs.declared.watch_lists.Watch.{Watch}
use Rattle.propagate.specs.declared.pairs.Pair.{Pair}

-- the place of a literal's list
abbrev pub code_of : ℤ → ℕ
code_of z = 2 * var_of z + (if is_positive z then 1 else 0)

-- the literal is in the clause
pub record IsIn (clause : List ℤ) (z : ℤ) : Type 0 where
  pub place : ℕ
  pub there : slice_get clause place ≡ Some z

-- the one of the two literals is this one, and the other is the partner
abbrev pub IsPartner : Pair → ℤ → ℤ → Type 0
IsPartner p lit other = (other ≢ lit) × (((p.first ≡ lit) × (p.second ≡ other)) ⊎ ((p.second ≡ lit) × (p.first ≡ other)))

-- two literals are watched, and neither is this one
abbrev pub HasNoPartner : Pair → ℤ → Type 0
HasNoPartner p lit = p.first ≢ p.second → (p.first ≢ lit) × (p.second ≢ lit)

-- the clause of that place stands in the list of the literal
pub record IsListed (lists : List (List Watch)) (n : ℕ) (z : ℤ) : Type 0 where
  pub place : ℕ
  pub watch : Watch
  pub there : slice_get (list_at lists (code_of z)) place ≡ Some watch
  pub names : watch.index ≡ n

-- at the end of each level at which the entries seen so far make the literal false, the clause is true
abbrev pub IsGuarded : List Entry → List Entry → List ℤ → ℤ → Type 0
IsGuarded seen es clause z = (l : ℕ) → value_of z (up_to l seen) ≡ Some false → IsSatisfied (lits_of (up_to l es)) clause

-- the clause is true at the end of each level
abbrev pub IsForGood : List Entry → List ℤ → Type 0
IsForGood es clause = (l : ℕ) → IsSatisfied (lits_of (up_to l es)) clause

-- both watched literals are guarded, and their lists have the clause
pub record IsWatched (lists : List (List Watch)) (seen es : List Entry) (n : ℕ) (clause : List ℤ) (p : Pair) : Type 0 where
  pub apart : p.first ≢ p.second
  pub first_listed : IsListed lists n p.first
  pub second_listed : IsListed lists n p.second
  pub first_guarded : IsGuarded seen es clause p.first
  pub second_guarded : IsGuarded seen es clause p.second

-- a clause in a list is there, and has the blocker
pub record IsEntry (clauses : List (List ℤ)) (w : Watch) : Type 0 where
  pub clause : List ℤ
  pub there : slice_get clauses w.index ≡ Some clause
  pub blocker_in : IsIn clause w.blocker

-- how lists and pairs lie: there is a list for each literal, and the two literals of a clause are in it
pub record AreLaid (vars : ℕ) (clauses : List (List ℤ)) (lists : List (List Watch)) (pairs : List Pair) : Type 0 where
  pub sized : length lists ≡ 2 * vars + 2
  pub fewer : length pairs ≤ length clauses
  pub listed : (code i : ℕ) (w : Watch) → slice_get (list_at lists code) i ≡ Some w → IsEntry clauses w
  pub paired : (n : ℕ) (c : List ℤ) (p : Pair) → slice_get clauses n ≡ Some c → slice_get pairs n ≡ Some p
      → IsIn c p.first × IsIn c p.second

-- each clause that has a pair is true for good, or is watched
abbrev pub AreGuarded : List (List ℤ) → List (List Watch) → List Pair → List Entry → List Entry → Type 0
AreGuarded clauses lists pairs seen es =
    (n : ℕ) (c : List ℤ) (p : Pair) → slice_get clauses n ≡ Some c → slice_get pairs n ≡ Some p
    → IsForGood es c ⊎ IsWatched lists seen es n c p

-- a clause in the list of a literal was looked at: it is true, or does not watch the literal
abbrev pub IsPassed : List (List ℤ) → List Pair → List Entry → ℤ → Watch → Type 0
IsPassed clauses pairs es lit w =
    (c : List ℤ) (p : Pair) → slice_get clauses w.index ≡ Some c → slice_get pairs w.index ≡ Some p → p.first ≢ p.second
    → (p.first ≡ lit) ⊎ (p.second ≡ lit) → IsSatisfied (lits_of es) c

-- so many clauses in the list of a literal were looked at
abbrev pub ArePassed : List (List ℤ) → List (List Watch) → List Pair → List Entry → ℤ → ℕ → Type 0
ArePassed clauses lists pairs es lit count =
    (k : ℕ) (w : Watch) → k < count → slice_get (list_at lists (code_of lit)) k ≡ Some w → IsPassed clauses pairs es lit w
