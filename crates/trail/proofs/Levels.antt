-- The level of a trail and of its entries.

use Rattle.std.proofs.Common.{◌≡◌, ◌≢◌, ℕ, ◌+◌, ◌<◌, ◌≤◌, ◌==◌, Bool, true, false, List, [], ◌∷◌, length, take, get_or, Some, sym, ap, subst, ◌∙◌, ⊎_elim, arith}
use Rattle.std.proofs.lemmas.Bool.{cases_eq}
use Rattle.std.proofs.lemmas.Bool.Decides.{nat_tests}
use Rattle.std.proofs.lemmas.List.{take-take, length-take-le, get_or-take}
use Rattle.std.proofs.lemmas.List.Sums.{sum_by-cons, sum_by_more, sum_by-take-le}
use Rattle.std.proofs.lemmas.Option.{slice_get_within}
use Rattle.std.specs.Bool.{if◌then◌else◌}
use Rattle.std.specs.Prelude.{◌-◌, ◌↔◌, All, AllPairs, slice_get}
use Rattle.clause_base.specs.Lit.{var_of}
use Rattle.clause_base.specs.declared.entry.Entry.{Entry}
use Rattle.trail.specs.Assignment.{step_of, level_of, Follows, IsTrail, IsLevelled}
use Rattle.trail.proofs.Signs.{sign-absent}
use Rattle.trail.proofs.Order.{IsTrail-at}

-- an entry begins one level at most
pub step-le : (e : Entry) → step_of e ≤ 1
step-le e = by (e.reason == 0)
  where
    by : (b : Bool) → (if b then 1 else 0) ≤ 1
    by true = omega arith
    by false = omega arith

-- an implied entry begins none
pub step-implied : (e : Entry) → 0 < e.reason → step_of e ≡ 0
step-implied e implied = let no : (e.reason == 0) ≡ false = grind (arith, nat_tests) in ap (λ b. if b then 1 else 0) no

-- a decision begins one
pub step-decision : (e : Entry) → e.reason ≡ 0 → step_of e ≡ 1
step-decision e decided = let yes : (e.reason == 0) ≡ true = grind (arith, nat_tests) in ap (λ b. if b then 1 else 0) yes

-- the level is at most the number of entries
pub level-le : (es : List Entry) → level_of es ≤ length es
level-le [] = omega arith
level-le (e ∷ es) = rw (sum_by-cons step_of e es) (omega (arith, step-le e, level-le es))

-- the level of the entry at a place is that of the entries up to it
pub level-up_to : (vars : ℕ) (es : List Entry) → IsTrail vars es → (i : ℕ) (d : Entry) → i < length es
    → (get_or es i d).level ≡ level_of (take (i + 1) es)
level-up_to vars es t i d lt =
    let f : Follows vars (take i es) (get_or es i d) = IsTrail-at vars es t i d lt in
    f.level ∙ sym (sum_by_more step_of es i d lt)

-- the entries up to a place have at least the level of those up to an earlier one
level-take-le : (es : List Entry) (i j : ℕ) → i ≤ j → level_of (take i es) ≤ level_of (take j es)
level-take-le es i j le = omega (arith, sum_by-take-le step_of (take j es) i, ap level_of (take-take i j es le))

-- an entry's level is at most that of the entries before a later one
level-before : (vars : ℕ) (es : List Entry) → IsTrail vars es → (i j : ℕ) (d : Entry) → i < j → j ≤ length es
    → (get_or es i d).level ≤ level_of (take j es)
level-before vars es t i j d lt within = omega (arith, level-up_to vars es t i d (omega arith), level-take-le es (i + 1) j (omega arith))

-- no entry's level is above that of the whole
pub level-below : (vars : ℕ) (es : List Entry) → IsTrail vars es → (i : ℕ) (d : Entry) → i < length es
    → (get_or es i d).level ≤ level_of es
level-below vars es t i d lt = omega (arith, level-up_to vars es t i d lt, sum_by-take-le step_of es (i + 1))

-- what a trail is, said of the whole list
pub IsTrail-levelled : (vars : ℕ) (es : List Entry) → IsTrail vars es → IsLevelled es
IsTrail-levelled vars es t = record { apart = apart; rising = rising; from_one = from_one; begun = begun }
  where
    follows : (i : ℕ) (d : Entry) → i < length es → Follows vars (take i es) (get_or es i d)
    follows i d lt = IsTrail-at vars es t i d lt

    apart : AllPairs (λ a b. var_of a.lit ≢ var_of b.lit) es
    apart i j d lt within =
        let sized : length (take j es) ≡ j = length-take-le j es (omega arith) in
        let absent : var_of (get_or (take j es) i d).lit ≢ var_of (get_or es j d).lit =
        sign-absent (var_of (get_or es j d).lit) (take j es) i d (omega arith) (follows j d within).fresh in
        subst (λ (a : Entry). var_of a.lit ≢ var_of (get_or es j d).lit) (get_or-take j es i d lt) absent

    rising : AllPairs (λ a b. a.level ≤ b.level) es
    rising i j d lt within =
        let later : (get_or es j d).level ≡ level_of (take j es) + step_of (get_or es j d) = (follows j d within).level in
        omega (arith, later, level-before vars es t i j d lt (omega arith))

    from_one : All (λ e. e.reason ≡ 0 → 0 < e.level) es
    from_one i d lt decided =
        let own : (get_or es i d).level ≡ level_of (take i es) + step_of (get_or es i d) = (follows i d lt).level in
        omega (arith, own, step-decision (get_or es i d) decided)

    begun : (i : ℕ) (e : Entry) → slice_get es i ≡ Some e → 0 < e.level → (e.reason ≡ 0) ↔ All (λ b. b.level ≢ e.level) (take i es)
    begun i e there above = (first, decided)
      where
        lt : i < length es
        lt = slice_get_within es i e there

        own : e.level ≡ level_of (take i es) + step_of e
        own = (t i e there).level

        sized : length (take i es) ≡ i
        sized = let le : i ≤ length es = omega (arith, lt) in length-take-le i es le

        first : e.reason ≡ 0 → All (λ b. b.level ≢ e.level) (take i es)
        first zero_reason k d k_lt same =
            let k_before : k < i = omega (arith, sized) in
            let i_within : i ≤ length es = omega (arith, lt) in
            let same_there : (get_or es k d).level ≡ e.level = ap (λ (a : Entry). a.level) (sym (get_or-take i es k d k_before)) ∙ same in
            absurd (omega (arith, own, step-decision e zero_reason, same_there, level-before vars es t k i d k_before i_within))

        decided : All (λ b. b.level ≢ e.level) (take i es) → e.reason ≡ 0
        decided none = ⊎_elim (λ (is : e.reason ≡ 0). is) (λ (other : e.reason ≢ 0). absurd (reached (omega arith))) (cases_eq e.reason 0)
          where
            reached : 0 < e.reason → ⊥
            reached implied =
                let level_is : e.level ≡ level_of (take i es) = omega (arith, own, step-implied e implied) in
                let some : 0 < i = omega (arith, level-le (take i es), sized, level_is, above) in
                let k : ℕ = i - 1 in
                let next : k + 1 ≡ i = omega arith in
                let k_lt : k < i = omega arith in
                let k_within : k < length es = omega (arith, lt) in
                let last : (get_or es k e).level ≡ level_of (take i es) = level-up_to vars es t k e k_within
                ∙ ap (λ n. level_of (take n es)) next in
                none k e (omega (arith, sized)) (ap (λ (a : Entry). a.level) (get_or-take i es k e k_lt) ∙ last ∙ sym level_is)
