-- Marks that the reasons of marked entries of level 0 ask for.

use Rattle.std.proofs.Common.{◌≡◌, ◌≢◌, ℕ, ℤ, ◌+◌, ◌<◌, ◌≤◌, ◌==◌, Bool, true, false, List, length, get_or, Some, refl, sym, ap, subst, ◌∙◌, ⊎_elim, inr, arith}
use Rattle.std.specs.Prelude.{slice_get, neg_ℤ, Contains}
use Rattle.std.proofs.lemmas.Bool.{cases_lt, eqb-true, eqb-false}
use Rattle.std.proofs.lemmas.Option.{slice_get_within, get_or_from_slice_get, same_Some}
use Rattle.clause_base.specs.Truth.{IsNumbered}
use Rattle.clause_base.specs.declared.entry.Entry.{Entry}
use Rattle.trail.specs.Assignment.{IsTrail, IsLevelled}
use Rattle.propagate.specs.Standing.{AreForced}
use Rattle.placer.specs.Marking.{ArePlaces, HasPlace, Marks, Closes}
use Rattle.placer.proofs.FalseEntries.{level_rises}
use Rattle.placer.proofs.Resolving.{place_cases}

-- an entry of level 0 is implied
pub implied_zero : (es : List Entry) → IsLevelled es → (i : ℕ) (e : Entry) → slice_get es i ≡ Some e → e.level ≡ 0 → 0 < e.reason
implied_zero es l i e there low = by (e.reason == 0) refl
  where
    above : e.reason ≡ 0 → 0 < e.level
    above decision =
        let lt : i < length es = slice_get_within es i e there in
        let is : get_or es i e ≡ e = get_or_from_slice_get es i e e there in
        subst (λ (x : Entry). 0 < x.level) is (l.from_one i e lt (ap (λ (x : Entry). x.reason) is ∙ decision))

    by : (b : Bool) → (e.reason == 0) ≡ b → 0 < e.reason
    by true t = let lt : 0 < e.level = above (eqb-true e.reason 0 t) in absurd (omega arith)
    by false t = let ne : e.reason ≢ 0 = eqb-false e.reason 0 t in omega arith

-- one place less, whose entry is not of level 0 or not marked
pub Closes_past : (cs : List (List ℤ)) (es : List Entry) (places : List ℕ) (place : ℕ) (old new : List Bool)
    → ((e : Entry) → slice_get es place ≡ Some e → e.level ≡ 0 → slice_get new place ≡ Some true → ⊥)
    → Closes cs es places (place + 1) old new → Closes cs es places place old new
Closes_past cs es places place old new none k = record {
  sized = k.sized;
  kept = k.kept;
  only = k.only;
  closed = λ i e c m le there low on named h. ⊎_elim
      (λ (far : place < i). k.closed i e c m (omega arith) there low on named h)
      (λ (near : i ≤ place).
      let same : i ≡ place = omega arith in
      absurd (none e (ap (slice_get es) (sym same) ∙ there) low (ap (slice_get new) (sym same) ∙ on)))
      (cases_lt place i);
}

-- one place less, whose entry of level 0 is marked, and then its reason
pub Closes_marked : (vars : ℕ) (cs : List (List ℤ)) (es : List Entry) (places : List ℕ) (place : ℕ) (old mid new : List Bool) (d : Entry)
    (c : List ℤ) → IsTrail vars es → IsLevelled es → AreForced cs es → ArePlaces vars es places → slice_get es place ≡ Some d
    → d.level ≡ 0 → 0 < d.reason → IsNumbered cs d.reason c → slice_get mid place ≡ Some true → Marks places c mid new
    → Closes cs es places (place + 1) old mid → Closes cs es places place old new
Closes_marked vars cs es places place old mid new d c t l f p at low implied named own m k =
    let lower : (i : ℕ) → HasPlace places c i → i ≤ place = λ i h. ⊎_elim
    (λ (same : i ≡ place). let r : i ≤ place = omega arith in r)
    (λ (r : (e : Entry) × (i < place) × (slice_get es i ≡ Some e) × Contains c (neg_ℤ e.lit)). let lt : i < place = r.1 in
    let le : i ≤ place = omega arith in le)
    (place_cases vars cs es places t f p place d c at implied named i h) in
    let zero_level : (i : ℕ) (e : Entry) → HasPlace places c i → slice_get es i ≡ Some e → e.level ≡ 0 = λ i e h there. ⊎_elim
    (λ (same : i ≡ place). let is : e ≡ d = same_Some e d (sym there ∙ ap (slice_get es) same ∙ at) in
    ap (λ (x : Entry). x.level) is ∙ low)
    (λ (r : (e : Entry) × (i < place) × (slice_get es i ≡ Some e) × Contains c (neg_ℤ e.lit)). let le : e.level ≤ d.level =
    level_rises es l i place e d r.1 there at in omega arith)
    (place_cases vars cs es places t f p place d c at implied named i h) in
    record {
      sized = m.sized ∙ k.sized;
      kept = λ i h. m.kept i (k.kept i h);
      only = λ i e there h. ⊎_elim
          (λ (before : slice_get mid i ≡ Some true). k.only i e there before)
          (λ (r : HasPlace places c i). inr (zero_level i e r there))
          (m.only i h);
      closed = λ i e b q le there none on name h. ⊎_elim
          (λ (far : place < i). ⊎_elim
          (λ (before : slice_get mid i ≡ Some true). m.kept q (k.closed i e b q (omega arith) there none before name h))
          (λ (r : HasPlace places c i). let under : i ≤ place = lower i r in absurd (omega arith))
          (m.only i on))
          (λ (near : i ≤ place).
          let same : i ≡ place = omega arith in
          let is : e ≡ d = same_Some e d (sym there ∙ ap (slice_get es) same ∙ at) in
          let reason : IsNumbered cs d.reason b = subst (λ (x : Entry). IsNumbered cs x.reason b) is name in
          let clause : b ≡ c = same_Some b c (sym reason.there ∙ named.there) in
          m.held q (subst (λ (x : List ℤ). HasPlace places x q) clause h))
          (cases_lt place i);
    }
