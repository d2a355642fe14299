-- The sign that a variable has in the entries.

use Rattle.std.proofs.Common.{◌≡◌, ◌≢◌, ℕ, zero, suc, ℤ, ◌<◌, ◌≤◌, Bool, true, false, not, ◌==◌, List, [], ◌∷◌, ◌++◌, length, get_or, Option, Some, None, sum_by, refl, arith}
use Rattle.std.proofs.lemmas.List.Sums.{sum_by-cons}
use Rattle.std.specs.Bool.{if◌then◌else◌}
use Rattle.std.specs.Option.{option_map, option_or}
use Rattle.clause_base.specs.Lit.{var_of, is_positive}
use Rattle.clause_base.specs.Truth.{lits_of}
use Rattle.clause_base.proofs.LiteralLemmas.{sign_none_first}
use Rattle.clause_base.specs.declared.entry.Entry.{Entry}
use Rattle.trail.specs.Assignment.{sign_of, value_of}
use Rattle.trail.specs.Kept.{count_of}

-- the sign that an entry gives a variable
abbrev pub given_by : ℕ → Entry → Option Bool
given_by v e = if var_of e.lit == v then Some (is_positive e.lit) else None

-- an unassigned literal is of a variable with no sign
pub sign-unassigned : (z : ℤ) (es : List Entry) → value_of z es ≡ None → sign_of (var_of z) es ≡ None
sign-unassigned z es h = by (sign_of (var_of z) es) h
  where
    by : (o : Option Bool) → option_map (λ s. if is_positive z then s else not s) o ≡ None → o ≡ None
    by None h = refl
    by (Some s) h = cc

-- the sign after one more entry
pub sign-push : (v : ℕ) (es : List Entry) (e : Entry) → sign_of v (es ++ e ∷ []) ≡ option_or (sign_of v es) (given_by v e)
sign-push v [] e = refl
sign-push v (x ∷ es) e = by (var_of x.lit == v) (sign-push v es e)
  where
    by : (b : Bool) → sign_of v (es ++ e ∷ []) ≡ option_or (sign_of v es) (given_by v e)
        → (if b then Some (is_positive x.lit) else sign_of v (es ++ e ∷ [])) ≡ option_or
        (if b then Some (is_positive x.lit) else sign_of v es) (given_by v e)
    by true h = refl
    by false h = h

-- `option_or` with none on its right
pub option_or-None : (o : Option Bool) → option_or o None ≡ o
option_or-None None = refl
option_or-None (Some s) = refl

-- a variable with no sign is that of no entry
pub sign-absent : (v : ℕ) (es : List Entry) (i : ℕ) (d : Entry) → i < length es → sign_of v es ≡ None → var_of (get_or es i d).lit ≢ v
sign-absent v [] i d lt h = absurd (omega arith)
sign-absent v (x ∷ xs) zero d lt h = (sign_none_first v x.lit (lits_of xs) h).0
sign-absent v (x ∷ xs) (suc i) d lt h = sign-absent v xs i d (omega arith) (sign_none_first v x.lit (lits_of xs) h).1

-- there are at most as many signs as places
pub count-le : (os : List (Option Bool)) → sum_by count_of os ≤ length os
count-le [] = omega arith
count-le (None ∷ os) = rw (sum_by-cons count_of None os) (omega (arith, count-le os))
count-le (Some s ∷ os) = rw (sum_by-cons count_of (Some s) os) (omega (arith, count-le os))
