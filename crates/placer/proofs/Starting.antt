-- A conflict has a literal of the present level, and its marks are those for the last place.

use Rattle.std.proofs.Common.{◌≡◌, ◌≢◌, ℕ, ℤ, zero, suc, ◌-◌, ◌<◌, ◌≤◌, Bool, true, false, List, length, Some, None, refl, sym, ap, subst, ◌∙◌, ⊎_elim, arith}
use Rattle.std.specs.Prelude.{slice_get, neg_ℤ, Contains, replicate}
use Rattle.std.proofs.lemmas.List.Elements.{All-contains}
use Rattle.std.proofs.lemmas.Option.{slice_get_within, get_or_from_slice_get, same_Some}
use Rattle.clause_base.specs.Lit.{var_of}
use Rattle.clause_base.specs.Truth.{lits_of, IsFalse, IsNumbered, IsSatisfied, HasTwo}
use Rattle.clause_base.specs.declared.entry.Entry.{Entry}
use Rattle.clause_base.proofs.LiteralLemmas.{var_neg}
use Rattle.trail.specs.Assignment.{value_of, level_of, IsTrail}
use Rattle.propagate.specs.Standing.{AreSettledBelow, up_to}
use Rattle.placer.specs.FirstPoint.{IsMarked, by_conflict, by_reason}
use Rattle.placer.specs.Learning.{level_at}
use Rattle.placer.specs.Marking.{ArePlaces, HasPlace, HasPlaceAt, Marks, Lowers, IsLowest, IsAtPlace}
use Rattle.placer.proofs.Signs.{trail-apart, value-kept}
use Rattle.placer.proofs.FalseEntries.{IsNegatedBy, false_entry, level_there, level_most}

-- nothing is marked at first
none_blank : (n i : ℕ) → slice_get (replicate n false) i ≡ Some true → ⊥
none_blank zero i h = cc
none_blank (suc n) zero h = cc
none_blank (suc n) (suc i) h = none_blank n i h

module _ (vars : ℕ) (cs : List (List ℤ)) (es : List Entry) (places : List ℕ) (t : IsTrail vars es) (p : ArePlaces vars es places) where
  -- the place of the negation of an entry's literal
  place_neg : (i : ℕ) (e : Entry) → slice_get es i ≡ Some e → slice_get places (var_of (neg_ℤ e.lit)) ≡ Some i
  place_neg i e there = ap (slice_get places) (var_neg e.lit) ∙ p.told i e there

  -- a false clause of the list has a literal of the present level
  pub present_there : (n : ℕ) (clause : List ℤ) → AreSettledBelow cs es → 0 < level_of es → IsNumbered cs n clause
      → IsFalse (lits_of es) clause
      → ((z : ℤ) (i : ℕ) (e : Entry) → Contains clause z → slice_get es i ≡ Some e → z ≡ neg_ℤ e.lit → e.level ≢ level_of es) → ⊥
  present_there n clause settled above named all_false none = ⊎_elim
      (λ (h : IsSatisfied (lits_of (up_to low es)) clause).
      let v : value_of h.lit (up_to low es) ≡ Some true = h.holds in
      let w : value_of h.lit (up_to low es) ≡ Some false = still h.place h.lit h.there in
      cc)
      (λ (h : HasTwo (lits_of (up_to low es)) clause).
      let v : value_of h.lit (up_to low es) ≡ None = h.unassigned in
      let w : value_of h.lit (up_to low es) ≡ Some false = still h.first h.lit h.there in
      cc)
      (settled low (omega arith) (n - 1) clause named.there)
    where
      low : ℕ
      low = level_of es - 1

      still : (k : ℕ) (z : ℤ) → slice_get clause k ≡ Some z → value_of z (up_to (level_of es - 1) es) ≡ Some false
      still k z at =
          let lt : k < length clause = slice_get_within clause k z at in
          let holds : Contains clause z = (k, lt, get_or_from_slice_get clause k z z at) in
          let v : value_of z es ≡ Some false = All-contains (λ y. value_of y es ≡ Some false) clause z all_false holds in
          let r : IsNegatedBy es z = false_entry z es (λ i e there. (t i e there).above) v in
          let level : level_at (var_of z) es ≡ r.entry.level = ap (λ y. level_at (var_of y) es) r.is
          ∙ ap (λ w. level_at w es) (var_neg r.entry.lit)
          ∙ level_there es r.place r.entry (λ i e there. (t i e there).fresh) r.there in
          let most : r.entry.level ≤ level_of es = level_most vars es t r.place r.entry r.there in
          let ne : r.entry.level ≢ level_of es = none z r.place r.entry holds r.there r.is in
          let le : level_at (var_of z) es ≤ level_of es - 1 = omega arith in
          value-kept z (level_of es - 1) es (trail-apart vars es t) le ∙ v

  -- the marks of the conflict
  pub at_last : (n count : ℕ) (clause : List ℤ) (blank marks : List Bool) (lowest : ℕ) → AreSettledBelow cs es → 0 < level_of es
      → 0 < length es → IsNumbered cs n clause → IsFalse (lits_of es) clause → blank ≡ replicate count false
      → Marks places clause blank marks → Lowers es places (level_of es) clause (length es) lowest
      → IsAtPlace cs es n (length es - 1) marks lowest
  at_last n count clause blank marks lowest settled above some named all_false blank_is m l =
      let k : IsLowest es marks lowest = ⊎_elim
      (λ (same : lowest ≡ length es). absurd (present_there n clause settled above named all_false (λ z i e holds there is present.
      let at : HasPlaceAt es places (level_of es) clause i =
      record { held = has z i e holds there is; entry = e; there = there; present = present } in
      let le : lowest ≤ i = l.least i at in
      let lt : i < length es = slice_get_within es i e there in
      absurd (omega arith))))
      (λ (h : HasPlaceAt es places (level_of es) clause lowest).
      let r : IsLowest es marks lowest =
      record {
        entry = h.entry;
        there = h.there;
        present = h.present;
        marked = m.held lowest h.held;
        least = λ i e there present on. l.least i (record { held = held i on; entry = e; there = there; present = present });
      } in r)
      l.own in
      let inside : lowest < length es = slice_get_within es lowest k.entry k.there in
      record {
        within = omega arith;
        sound = λ i on.
            let h : HasPlace places clause i = held i on in
            let v : value_of h.lit es ≡ Some false = All-contains (λ y. value_of y es ≡ Some false) clause h.lit all_false h.held in
            let r : IsNegatedBy es h.lit = false_entry h.lit es (λ i e there. (t i e there).above) v in
            let same : r.place ≡ i =
            same_Some r.place i (sym (place_neg r.place r.entry r.there) ∙ ap (λ y. slice_get places (var_of y)) (sym r.is) ∙ h.there)
            in
            by_conflict i r.entry clause (ap (slice_get es) (sym same) ∙ r.there) named
            (subst (λ (y : ℤ). Contains clause y) r.is h.held);
        complete = λ i marked. complete marked;
        lowest_is = k;
        low = omega arith;
        later = λ q far point. let lt : q < length es = slice_get_within es q point.entry point.there in absurd (omega arith);
      }
    where
      has : (z : ℤ) (i : ℕ) (e : Entry) → Contains clause z → slice_get es i ≡ Some e → z ≡ neg_ℤ e.lit → HasPlace places clause i
      has z i e holds there is = record { lit = z; held = holds; there = ap (λ y. slice_get places (var_of y)) is ∙ place_neg i e there }

      held : (i : ℕ) → slice_get marks i ≡ Some true → HasPlace places clause i
      held i on = ⊎_elim
          (λ (before : slice_get blank i ≡ Some true).
          absurd (none_blank count i (ap (λ (xs : List Bool). slice_get xs i) (sym blank_is) ∙ before)))
          (λ (h : HasPlace places clause i). h)
          (m.only i on)

      complete : {i : ℕ} → IsMarked cs es n (length es - 1) i → slice_get marks i ≡ Some true
      complete (by_conflict i e c there name holds) =
          let is : c ≡ clause = same_Some c clause (sym name.there ∙ named.there) in
          m.held i (has (neg_ℤ e.lit) i e (subst (λ (x : List ℤ). Contains x (neg_ℤ e.lit)) is holds) there refl)
      complete (by_reason i j e d c lt after there at marked name holds) = let inside : j < length es = slice_get_within es j d at in
          absurd (omega arith)
