-- What the fields keep where an entry is added at the end or taken back.

use Rattle.std.proofs.Common.{◌≡◌, ℕ, ◌+◌, ◌<◌, ◌≤◌, Bool, true, false, ◌==◌, List, [], ◌∷◌, ◌++◌, length, get_or, set, Option, Some, None, sum_by, sym, ap, subst, ◌∙◌, ⊎_elim, arith}
use Rattle.std.proofs.lemmas.Bool.{cases_eq}
use Rattle.std.proofs.lemmas.Bool.Decides.{nat_tests}
use Rattle.std.proofs.lemmas.List.{length_push, length-set, get_or-set_same, get_or-set_other}
use Rattle.std.proofs.lemmas.List.Sums.{sum_by-set}
use Rattle.std.specs.Bool.{if◌then◌else◌}
use Rattle.std.specs.Option.{option_or}
use Rattle.clause_base.specs.Lit.{var_of, is_positive}
use Rattle.clause_base.specs.declared.entry.Entry.{Entry}
use Rattle.trail.specs.Assignment.{sign_of, Follows}
use Rattle.trail.specs.Kept.{count_of, AreKept}
use Rattle.trail.proofs.Signs.{given_by, sign-push, option_or-None, count-le}
use Rattle.trail.proofs.Order.{IsTrail-push, IsTrail-last, IsTrail-front}

-- where a variable has no sign, there is room for an entry
pub length-kept : (vars : ℕ) (es : List Entry) (signs : List (Option Bool)) (v : ℕ) → AreKept vars es signs → v ≤ vars
    → sign_of v es ≡ None → length es < vars + 1
length-kept vars es signs v k le free =
    let none : get_or signs v None ≡ None = k.told v le ∙ free in
    let within : v < length signs = omega (arith, k.sized) in
    let zero_there : count_of (get_or signs v None) ≡ 0 = ap count_of none in
    omega (
      arith,
      sum_by-set count_of signs v (Some true) None within,
      zero_there,
      count-le (set signs v (Some true)),
      length-set signs v (Some true),
      k.counted,
      k.sized,
    )

-- one more entry that may follow
pub AreKept-push : (vars : ℕ) (es : List Entry) (signs : List (Option Bool)) (e : Entry) → AreKept vars es signs → Follows vars es e
    → AreKept vars (es ++ e ∷ []) (set signs (var_of e.lit) (Some (is_positive e.lit)))
AreKept-push vars es signs e k f =
    record { ordered = IsTrail-push vars es e k.ordered f; sized = length-set signs _ _ ∙ k.sized; told = told; counted = counted }
  where
    within : var_of e.lit < length signs
    within = let le : var_of e.lit ≤ vars = f.in_range in omega (arith, k.sized, le)

    told : (v : ℕ) → v ≤ vars → get_or (set signs (var_of e.lit) (Some (is_positive e.lit))) v None ≡ sign_of v (es ++ e ∷ [])
    told v le = ⊎_elim (λ same. own v same) (λ other. others v le other) (cases_eq v (var_of e.lit))
      where
        own : (v : ℕ) → v ≡ var_of e.lit → get_or (set signs (var_of e.lit) (Some (is_positive e.lit))) v None ≡ sign_of v (es ++ e ∷ [])
        own v same =
            let yes : (var_of e.lit == v) ≡ true = grind (arith, nat_tests) in
            let P : ℕ → Type 0 = λ u. get_or (set signs (var_of e.lit) (Some (is_positive e.lit))) u None ≡ Some (is_positive e.lit) in
            let none : sign_of v es ≡ None = ap (λ u. sign_of u es) same ∙ f.fresh in
            subst P (sym same) (get_or-set_same signs (var_of e.lit) _ None within)
            ∙ sym (sign-push v es e ∙ ap (λ o. option_or o (given_by v e)) none
            ∙ ap (λ b. if b then Some (is_positive e.lit) else None) yes)

        others : (v : ℕ) → v ≤ vars → (v ≡ var_of e.lit → ⊥)
            → get_or (set signs (var_of e.lit) (Some (is_positive e.lit))) v None ≡ sign_of v (es ++ e ∷ [])
        others v le other =
            let no : (var_of e.lit == v) ≡ false = grind (arith, nat_tests) in
            get_or-set_other signs (var_of e.lit) v _ None other ∙ k.told v le
            ∙ sym (sign-push v es e ∙ ap (λ b. option_or (sign_of v es) (if b then Some (is_positive e.lit) else None)) no
            ∙ option_or-None (sign_of v es))

    counted : sum_by count_of (set signs (var_of e.lit) (Some (is_positive e.lit))) ≡ length (es ++ e ∷ [])
    counted =
        let none : get_or signs (var_of e.lit) None ≡ None = k.told (var_of e.lit) f.in_range ∙ f.fresh in
        let zero_there : count_of (get_or signs (var_of e.lit) None) ≡ 0 = ap count_of none in
        omega (
          arith,
          sum_by-set count_of signs (var_of e.lit) (Some (is_positive e.lit)) None within,
          zero_there,
          length_push es e,
          k.counted,
        )

-- the last entry is taken back
pub AreKept-pop : (vars : ℕ) (es : List Entry) (signs : List (Option Bool)) (e : Entry) → AreKept vars (es ++ e ∷ []) signs
    → AreKept vars es (set signs (var_of e.lit) None)
AreKept-pop vars es signs e k =
    record { ordered = IsTrail-front vars es e k.ordered; sized = length-set signs _ _ ∙ k.sized; told = told; counted = counted }
  where
    f : Follows vars es e
    f = IsTrail-last vars es e k.ordered

    within : var_of e.lit < length signs
    within = let le : var_of e.lit ≤ vars = f.in_range in omega (arith, k.sized, le)

    told : (v : ℕ) → v ≤ vars → get_or (set signs (var_of e.lit) None) v None ≡ sign_of v es
    told v le = ⊎_elim (λ same. own v same) (λ other. others v le other) (cases_eq v (var_of e.lit))
      where
        own : (v : ℕ) → v ≡ var_of e.lit → get_or (set signs (var_of e.lit) None) v None ≡ sign_of v es
        own v same =
            let P : ℕ → Type 0 = λ u. get_or (set signs (var_of e.lit) None) u None ≡ None in
            let none : sign_of v es ≡ None = ap (λ u. sign_of u es) same ∙ f.fresh in
            subst P (sym same) (get_or-set_same signs (var_of e.lit) _ None within) ∙ sym none

        others : (v : ℕ) → v ≤ vars → (v ≡ var_of e.lit → ⊥) → get_or (set signs (var_of e.lit) None) v None ≡ sign_of v es
        others v le other =
            let no : (var_of e.lit == v) ≡ false = grind (arith, nat_tests) in
            get_or-set_other signs (var_of e.lit) v _ None other ∙ k.told v le
            ∙ sign-push v es e ∙ ap (λ b. option_or (sign_of v es) (if b then Some (is_positive e.lit) else None)) no
            ∙ option_or-None (sign_of v es)

    counted : sum_by count_of (set signs (var_of e.lit) None) ≡ length es
    counted =
        let yes : (var_of e.lit == var_of e.lit) ≡ true = grind (arith, nat_tests) in
        let some : get_or signs (var_of e.lit) None ≡ Some (is_positive e.lit) = k.told (var_of e.lit) f.in_range
        ∙ sign-push (var_of e.lit) es e ∙ ap (λ o. option_or o (given_by (var_of e.lit) e)) f.fresh
        ∙ ap (λ b. if b then Some (is_positive e.lit) else None) yes in
        let one_there : count_of (get_or signs (var_of e.lit) None) ≡ 1 = ap count_of some in
        omega (arith, sum_by-set count_of signs (var_of e.lit) None None within, one_there, length_push es e, k.counted)
