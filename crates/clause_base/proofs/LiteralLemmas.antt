-- Literals alone, and the signs that they give their variables.

use Rattle.std.proofs.Common.{◌≡◌, ◌≢◌, ℕ, zero, suc, ℤ, pos, negsuc, ◌<◌, Bool, true, false, not, ◌==◌, List, [], ◌∷◌, Option, Some, None, refl, ap, ◌∙◌, arith}
use Rattle.std.specs.Prelude.{neg_ℤ}
use Rattle.std.specs.Bool.{if◌then◌else◌}
use Rattle.std.specs.Option.{option_map}
use Rattle.std.proofs.lemmas.Bool.{eqb-false}
use Rattle.clause_base.specs.Lit.{var_of, is_positive}
use Rattle.clause_base.specs.Truth.{sign_in, value_in}

-- the negation has the variable
pub var_neg : (z : ℤ) → var_of (neg_ℤ z) ≡ var_of z
var_neg (pos zero) = refl
var_neg (pos (suc n)) = refl
var_neg (negsuc n) = refl

-- and the other sign
pub positive_neg : (z : ℤ) → 0 < var_of z → is_positive (neg_ℤ z) ≡ not (is_positive z)
positive_neg (pos zero) lt = absurd (omega arith)
positive_neg (pos (suc n)) lt = refl
positive_neg (negsuc n) lt = refl

-- the negation of the negation is the literal
pub neg_neg : (z : ℤ) → neg_ℤ (neg_ℤ z) ≡ z
neg_neg (pos zero) = refl
neg_neg (pos (suc n)) = refl
neg_neg (negsuc n) = refl

-- a literal is told by its variable and its sign
pub same_literal : (y z : ℤ) → var_of y ≡ var_of z → is_positive y ≡ is_positive z → y ≡ z
same_literal (pos m) (pos n) v s = ap pos v
same_literal (pos m) (negsuc n) v s = cc
same_literal (negsuc m) (pos n) v s = cc
same_literal (negsuc m) (negsuc n) v s = let e : m ≡ n = omega arith in ap negsuc e

-- a variable with no sign is neither that of the first literal nor has a sign in the others
pub sign_none_first : (v : ℕ) (x : ℤ) (xs : List ℤ) → sign_in v (x ∷ xs) ≡ None → (var_of x ≢ v) × (sign_in v xs ≡ None)
sign_none_first v x xs h = by (var_of x == v) refl h
  where
    by : (b : Bool) → (var_of x == v) ≡ b → (if b then Some (is_positive x) else sign_in v xs) ≡ None
        → (var_of x ≢ v) × (sign_in v xs ≡ None)
    by true test h = cc
    by false test h = (eqb-false (var_of x) v test, h)

-- the value of a literal from the sign of its variable
pub value_of_sign : (z : ℤ) (xs ys : List ℤ) → ((s : Bool) → sign_in (var_of z) xs ≡ Some s → sign_in (var_of z) ys ≡ Some s)
    → (t : Bool) → value_in z xs ≡ Some t → value_in z ys ≡ Some t
value_of_sign z xs ys h t v = by (sign_in (var_of z) xs) refl v
  where
    by : (o : Option Bool) → sign_in (var_of z) xs ≡ o → option_map (λ s. if is_positive z then s else not s) o ≡ Some t
        → value_in z ys ≡ Some t
    by None e v = cc
    by (Some s) e v = ap (option_map (λ s. if is_positive z then s else not s)) (h s e) ∙ v
