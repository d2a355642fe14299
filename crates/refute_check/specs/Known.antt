-- The clauses that the hints of a line may name: those of the source that were asked for, and those of derived lines.

use Rattle.std.specs.Prelude.{ℕ, ℤ, zero, suc, ◌+◌, ◌*◌, ◌<◌, ◌≤◌, ◌^◌, ◌≡◌, List, [], ◌++◌, length, map, Option, Some, None, All, slice_get}
use Rattle.clause_base.specs.Clauses.{Clauses}
use Rattle.refute_check.specs.Hints.{clause_at}
use Rattle.refute_check.specs.declared.known_clauses.KnownClauses.TheInside.{Inside}

-- what is known of a source's clauses
pub record Known : Type 0 where
  -- the number of variables
  pub vars : ℕ
  -- the clauses of the source by their places, none where one was not asked for
  pub asked : List (Option (List ℤ))
  -- how many were asked for
  pub count : ℕ
  -- the clauses of the derived lines
  pub derived : List (List ℤ)

-- a clause, empty where it was not asked for
abbrev pub or_nothing : Option (List ℤ) → List ℤ
or_nothing None = []
or_nothing (Some clause) = clause

-- the clauses in the order of their numbers, those that were not asked for shown empty
abbrev pub known_clauses : Known → List (List ℤ)
known_clauses known = map or_nothing known.asked ++ known.derived

-- the same as a list
abbrev pub known_list : Known → Clauses
known_list known = record { vars = known.vars; clauses = known_clauses known }

-- a source's list with the clauses of the derived lines after its own
abbrev pub with_derived : Clauses → List (List ℤ) → Clauses
with_derived list derived = record { vars = list.vars; clauses = list.clauses ++ derived }

-- what is known of a source's list, where so many literals were given: each clause that was asked for is the list's, and
-- so few were asked for that `given` stays far below the end of a source's count
pub record IsKnown (list : Clauses) (known : Known) (given : ℕ) : Type 0 where
  pub vars : known.vars ≡ list.vars
  pub sized : length known.asked ≡ length list.clauses
  pub told : (n : ℕ) (clause : List ℤ) → slice_get known.asked n ≡ Some (Some clause) → slice_get list.clauses n ≡ Some clause
  pub count_few : known.count < 2 ^ 32
  pub given_few : given ≤ 2 ^ 64 + 2 ^ 32 * known.count

-- the clause of a number is known
abbrev pub Agrees : Clauses → Known → ℕ → Type 0
Agrees list known number = clause_at (known_clauses known) number ≡ clause_at (list.clauses ++ known.derived) number

-- the clause at a place of the table, of those that were asked for in turn: their number, or 0 for none
abbrev pub kept_at : List (List ℤ) → ℕ → Option (List ℤ)
kept_at asked zero = None
kept_at asked (suc place) = slice_get asked place

-- what a contract sees of the fields
abbrev pub known_of : Inside → Known
known_of i = record {
  vars = i.derived.vars;
  asked = map (kept_at i.asked.clauses) i.places.items;
  count = length i.asked.clauses;
  derived = i.derived.clauses;
}

-- what the fields keep: both lists are over the same variables, and the table has numbers of clauses or 0
pub record ArePlaces (i : Inside) : Type 0 where
  pub same_vars : i.asked.vars ≡ i.derived.vars
  pub few : i.derived.vars < 2 ^ 31
  pub within : All (λ place. place ≤ length i.asked.clauses) i.places.items
