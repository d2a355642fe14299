use Rattle.std.proofs.Common.{◌≡◌, ℕ, ℤ, ◌<◌, ◌≤◌, Bool, true, false, not, ◌==◌, List, [], ◌∷◌, ◌++◌, length, get_or, set, Option, Some, None, refl, sym, ap, subst, ◌∙◌, ⊎_elim, arith}
use Rattle.std.proofs.lemmas.Bool.{cases_eq}
use Rattle.std.proofs.lemmas.Bool.Decides.{nat_tests}
use Rattle.std.proofs.lemmas.List.{length-set, get_or-set_same, get_or-set_other}
use Rattle.std.proofs.lemmas.List.Elements.{All-push}
use Rattle.std.specs.Bool.{if◌then◌else◌}
use Rattle.std.specs.Option.{option_map, option_or}
use Rattle.clause_base.specs.Lit.{var_of, is_positive}
use Rattle.clause_base.specs.Truth.{sign_in, value_in}
use Rattle.refute_check.specs.Kept.{AreKept}

-- a literal with no value is of a variable with no sign
pub sign-free : (z : ℤ) (es : List ℤ) → value_in z es ≡ None → sign_in (var_of z) es ≡ None
sign-free z es h = by (sign_in (var_of z) es) h
  where
    by : (o : Option Bool) → option_map (λ s. if is_positive z then s else not s) o ≡ None → o ≡ None
    by None h = refl
    by (Some s) h = cc

or_none : (o : Option Bool) → option_or o None ≡ o
or_none None = refl
or_none (Some s) = refl

-- the sign after one more literal
pub sign-push : (v : ℕ) (es : List ℤ) (e : ℤ)
    → sign_in v (es ++ e ∷ []) ≡ option_or (sign_in v es) (if var_of e == v then Some (is_positive e) else None)
sign-push v [] e = refl
sign-push v (x ∷ es) e = by (var_of x == v) (sign-push v es e)
  where
    by : (b : Bool) → sign_in v (es ++ e ∷ []) ≡ option_or (sign_in v es) (if var_of e == v then Some (is_positive e) else None)
        → (if b then Some (is_positive x) else sign_in v (es ++ e ∷ [])) ≡ option_or (if b then Some (is_positive x) else sign_in v es)
        (if var_of e == v then Some (is_positive e) else None)
    by true h = refl
    by false h = h

-- one more literal, of a variable with no sign
pub AreKept-push : (vars : ℕ) (held : List ℤ) (signs : List (Option Bool)) (z : ℤ) → AreKept vars held signs → var_of z ≤ vars
    → value_in z held ≡ None → AreKept vars (held ++ z ∷ []) (set signs (var_of z) (Some (is_positive z)))
AreKept-push vars held signs z k le value = record {
  few = k.few;
  sized = length-set signs _ _ ∙ k.sized;
  within = All-push (λ y. var_of y ≤ vars) held z k.within le;
  told = told;
}
  where
    inside : var_of z < length signs
    inside = omega (arith, k.sized, le)

    free : sign_in (var_of z) held ≡ None
    free = sign-free z held value

    told : (w : ℕ) → w ≤ vars → get_or (set signs (var_of z) (Some (is_positive z))) w None ≡ sign_in w (held ++ z ∷ [])
    told w h = ⊎_elim (λ same. sign_same w same) (λ other. sign_other w h other) (cases_eq w (var_of z))
      where
        sign_same : (w : ℕ) → w ≡ var_of z → get_or (set signs (var_of z) (Some (is_positive z))) w None ≡ sign_in w (held ++ z ∷ [])
        sign_same w same =
            let yes : (var_of z == w) ≡ true = grind (arith, nat_tests) in
            let P : ℕ → Type 0 = λ u. get_or (set signs (var_of z) (Some (is_positive z))) u None ≡ Some (is_positive z) in
            let none : sign_in w held ≡ None = ap (λ u. sign_in u held) same ∙ free in
            subst P (sym same) (get_or-set_same signs (var_of z) _ None inside)
            ∙ sym (sign-push w held z ∙ ap (λ o. option_or o (if var_of z == w then Some (is_positive z) else None)) none
            ∙ ap (λ b. if b then Some (is_positive z) else None) yes)

        sign_other : (w : ℕ) → w ≤ vars → (w ≡ var_of z → ⊥)
            → get_or (set signs (var_of z) (Some (is_positive z))) w None ≡ sign_in w (held ++ z ∷ [])
        sign_other w le other =
            let no : (var_of z == w) ≡ false = grind (arith, nat_tests) in
            get_or-set_other signs (var_of z) w _ None other ∙ k.told w le
            ∙ sym (sign-push w held z ∙ ap (λ b. option_or (sign_in w held) (if b then Some (is_positive z) else None)) no
            ∙ or_none (sign_in w held))
