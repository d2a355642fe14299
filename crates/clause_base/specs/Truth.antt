-- Truth under a list of literals that hold. A derivation, a clash and a trail each give such a list, and all
-- three are judged by the words here.

use Rattle.std.specs.Prelude.{ℕ, ℤ, ◌<◌, ◌-◌, ◌≡◌, ◌==◌, ◌⊎◌, Bool, true, false, not, if◌then◌else◌, List, [], ◌∷◌, ◌++◌, slice_get, Option, Some, None, All}
use Rattle.std.specs.Option.{option_map}
use Rattle.clause_base.specs.Lit.{var_of, is_positive}
use Rattle.clause_base.specs.declared.entry.Entry.{Entry}

-- the literals that hold after these entries
abbrev pub lits_of : List Entry → List ℤ
lits_of [] = []
lits_of (e ∷ es) = e.lit ∷ lits_of es

-- the sign with which a variable stands among the literals that hold: positive, negated or not at all
abbrev pub sign_in : ℕ → List ℤ → Option Bool
sign_in v [] = None
sign_in v (z ∷ zs) = if var_of z == v then Some (is_positive z) else sign_in v zs

-- the truth value of a literal: none where its variable is unassigned
abbrev pub value_in : ℤ → List ℤ → Option Bool
value_in z held = option_map (λ s. if is_positive z then s else not s) (sign_in (var_of z) held)

-- the clause is false: every literal is
abbrev pub IsFalse : List ℤ → List ℤ → Type 0
IsFalse held clause = All (λ z. value_in z held ≡ Some false) clause

-- the clause is unit: the literal is unassigned, and all the others are false
pub record IsUnit (held : List ℤ) (clause : List ℤ) (z : ℤ) : Type 0 where
  pub front : List ℤ
  pub back : List ℤ
  pub split : clause ≡ front ++ z ∷ back
  pub unassigned : value_in z held ≡ None
  pub before : IsFalse held front
  pub after : IsFalse held back

-- the clause is true: some literal is
pub record IsSatisfied (held : List ℤ) (clause : List ℤ) : Type 0 where
  pub place : ℕ
  pub lit : ℤ
  pub there : slice_get clause place ≡ Some lit
  pub holds : value_in lit held ≡ Some true

-- two literals of the clause, at different places, are unassigned
pub record HasTwo (held : List ℤ) (clause : List ℤ) : Type 0 where
  pub first : ℕ
  pub second : ℕ
  pub lit : ℤ
  pub other : ℤ
  pub apart : first < second
  pub there : slice_get clause first ≡ Some lit
  pub next : slice_get clause second ≡ Some other
  pub unassigned : value_in lit held ≡ None
  pub too : value_in other held ≡ None

-- the clause is true or has two unassigned literals, so it is neither unit nor false
abbrev pub IsSettled : List ℤ → List ℤ → Type 0
IsSettled held clause = IsSatisfied held clause ⊎ HasTwo held clause

-- propagation is complete: every clause is settled
abbrev pub AreSettled : List ℤ → List (List ℤ) → Type 0
AreSettled held clauses = (n : ℕ) (clause : List ℤ) → slice_get clauses n ≡ Some clause → IsSettled held clause

-- the clause has that number; the first has number 1
pub record IsNumbered (clauses : List (List ℤ)) (number : ℕ) (clause : List ℤ) : Type 0 where
  pub above : 0 < number
  pub there : slice_get clauses (number - 1) ≡ Some clause

-- the clause of that number is unit, and the literal is its unassigned one
pub record Forces (held : List ℤ) (clauses : List (List ℤ)) (number : ℕ) (z : ℤ) : Type 0 where
  pub clause : List ℤ
  pub numbered : IsNumbered clauses number clause
  pub unit : IsUnit held clause z

-- the clause of that number is false
pub record IsConflict (held : List ℤ) (clauses : List (List ℤ)) (number : ℕ) : Type 0 where
  pub clause : List ℤ
  pub numbered : IsNumbered clauses number clause
  pub all_false : IsFalse held clause
