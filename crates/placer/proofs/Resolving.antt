-- Going back past a place of the trail.

use Rattle.std.proofs.Common.{◌≡◌, ◌≢◌, ℕ, ℤ, ◌+◌, ◌-◌, ◌<◌, ◌≤◌, ◌⊎◌, Bool, true, false, List, [], ◌∷◌, ◌++◌, length, get_or, take, Some, sym, ap, subst, ◌∙◌, ⊎_elim, inl, inr, arith}
use Rattle.std.specs.Prelude.{slice_get, neg_ℤ, Contains, All}
use Rattle.std.proofs.lemmas.Bool.{cases_lt}
use Rattle.std.proofs.lemmas.List.Elements.{Contains-append_cases, Contains-get_or, All-contains}
use Rattle.std.proofs.lemmas.Option.{slice_get_within, same_Some}
use Rattle.clause_base.specs.Lit.{var_of}
use Rattle.clause_base.specs.Truth.{lits_of, IsFalse, IsNumbered, Forces}
use Rattle.clause_base.specs.declared.entry.Entry.{Entry}
use Rattle.clause_base.proofs.LiteralLemmas.{var_neg}
use Rattle.trail.specs.Assignment.{value_of, level_of, IsTrail, IsLevelled}
use Rattle.propagate.specs.Standing.{AreForced}
use Rattle.placer.specs.FirstPoint.{IsMarked, IsPoint, by_reason}
use Rattle.placer.specs.Marking.{IsWithin, ArePlaces, HasPlace, HasPlaceAt, Marks, Lowers, IsLowest, IsAtPlace}
use Rattle.placer.proofs.FalseEntries.{IsNegatedBy, false_entry, take_entry, level_most, level_rises, implied_after}
use Rattle.placer.proofs.MarkedPlaces.{marked_less, IsHeldBy, marked_step}

-- a literal of a reason is the implied one, or an earlier entry makes it false
pub record IsEarlier (es : List Entry) (j : ℕ) (z : ℤ) : Type 0 where
  pub place : ℕ
  pub entry : Entry
  pub early : place < j
  pub there : slice_get es place ≡ Some entry
  pub is : z ≡ neg_ℤ entry.lit

-- past an entry that is not marked
pub past_unmarked : (cs : List (List ℤ)) (es : List Entry) (n place : ℕ) (marks : List Bool) (lowest : ℕ) → lowest < place
    → slice_get marks place ≢ Some true → IsAtPlace cs es n place marks lowest → IsAtPlace cs es n (place - 1) marks lowest
past_unmarked cs es n place marks lowest lt unmarked k =
    let within : place < length es = k.within in
    let back : place - 1 + 1 ≡ place = omega arith in
    record {
      within = omega arith;
      sound = λ i h. marked_less cs es n place (place - 1) (omega arith) (k.sound i h);
      complete = λ i m. ⊎_elim
          (λ (old : IsMarked cs es n (place - 1 + 1) i). k.complete i (subst (λ (q : ℕ). IsMarked cs es n q i) back old))
          (λ (new : IsMarked cs es n (place - 1 + 1) (place - 1 + 1) × IsHeldBy cs es (place - 1 + 1) i).
          absurd (unmarked (k.complete place (subst (λ (q : ℕ). IsMarked cs es n q q) back new.0))))
          (marked_step cs es n (place - 1) m);
      lowest_is = k.lowest_is;
      low = omega arith;
      later = λ q later. ⊎_elim
          (λ (far : place < q). k.later q far)
          (λ (near : q ≤ place). let same : q ≡ place = omega arith in
          λ point. unmarked (k.complete place (subst (λ (r : ℕ). IsMarked cs es n r r) same point.marked)))
          (cases_lt place q);
    }

module _ (vars : ℕ) (cs : List (List ℤ)) (es : List Entry) (places : List ℕ) (t : IsTrail vars es) (f : AreForced cs es)
    (p : ArePlaces vars es places) where
  -- variables count from 1
  above : (i : ℕ) (e : Entry) → slice_get es i ≡ Some e → 0 < var_of e.lit
  above i e there = (t i e there).above

  -- the place of the negation of an entry's literal
  pub place_neg : (i : ℕ) (e : Entry) → slice_get es i ≡ Some e → slice_get places (var_of (neg_ℤ e.lit)) ≡ Some i
  place_neg i e there = ap (slice_get places) (var_neg e.lit) ∙ p.told i e there

  -- a false clause's literals have places
  pub within_false : (clause : List ℤ) (count : ℕ) → length es ≤ count → IsFalse (lits_of es) clause → All (IsWithin places count) clause
  within_false clause count le h i d lt =
      let r : IsNegatedBy es (get_or clause i d) = false_entry (get_or clause i d) es above (h i d lt) in
      let low : r.place < length es = slice_get_within es r.place r.entry r.there in
      record {
        place = r.place;
        there = ap (λ z. slice_get places (var_of z)) r.is ∙ place_neg r.place r.entry r.there;
        below = omega arith;
      }

  -- a literal of a reason
  pub reason_cases : (j : ℕ) (d : Entry) (c : List ℤ) → slice_get es j ≡ Some d → 0 < d.reason → IsNumbered cs d.reason c → (z : ℤ)
      → Contains c z → (z ≡ d.lit) ⊎ IsEarlier es j z
  reason_cases j d c at implied named z holds =
      let a : Forces (lits_of (take j es)) cs d.reason d.lit = f j d at implied in
      let same : a.clause ≡ c = same_Some a.clause c (sym a.numbered.there ∙ named.there) in
      let split : c ≡ a.unit.front ++ d.lit ∷ a.unit.back = sym same ∙ a.unit.split in
      let within : j < length es = slice_get_within es j d at in
      let early : (part : List ℤ) → IsFalse (lits_of (take j es)) part → Contains part z → IsEarlier es j z = λ part h i.
      let r : IsNegatedBy (take j es) z =
      false_entry z (take j es) (λ k e there. above k e (take_entry es j k e (omega arith) there).1)
      (All-contains (λ y. value_of y (take j es) ≡ Some false) part z h i) in
      let q : (r.place < j) × (slice_get es r.place ≡ Some r.entry) = take_entry es j r.place r.entry (omega arith) r.there in
      record { place = r.place; entry = r.entry; early = q.0; there = q.1; is = r.is } in
      let own : Contains (d.lit ∷ []) z → z ≡ d.lit = λ i. let zero_there : i.0 ≡ 0 = let lt : i.0 < length (d.lit ∷ []) = i.1 in
      omega arith in sym (sym (ap (λ k. get_or (d.lit ∷ []) k z) zero_there) ∙ i.2) in
      ⊎_elim
      (λ (b : Contains a.unit.front z). inr (early a.unit.front a.unit.before b))
      (λ (b : Contains (d.lit ∷ a.unit.back) z). ⊎_elim
      (λ (o : Contains (d.lit ∷ []) z). inl (own o))
      (λ (o : Contains a.unit.back z). inr (early a.unit.back a.unit.after o))
      (Contains-append_cases (d.lit ∷ []) a.unit.back z b))
      (Contains-append_cases a.unit.front (d.lit ∷ a.unit.back) z (subst (λ (l : List ℤ). Contains l z) split holds))

  -- a reason's literals have places
  pub within_reason : (j : ℕ) (d : Entry) (c : List ℤ) (count : ℕ) → slice_get es j ≡ Some d → 0 < d.reason → IsNumbered cs d.reason c
      → length es ≤ count → All (IsWithin places count) c
  within_reason j d c count at implied named le i x lt =
      let z : ℤ = get_or c i x in
      let inside : j < length es = slice_get_within es j d at in
      ⊎_elim
      (λ (own : get_or c i x ≡ d.lit). let w : IsWithin places count (get_or c i x) =
      record { place = j; there = ap (λ y. slice_get places (var_of y)) own ∙ p.told j d at; below = omega arith } in w)
      (λ (r : IsEarlier es j (get_or c i x)).
      let low : r.place < length es = slice_get_within es r.place r.entry r.there in
      let w : IsWithin places count (get_or c i x) =
      record {
        place = r.place;
        there = ap (λ y. slice_get places (var_of y)) r.is ∙ place_neg r.place r.entry r.there;
        below = omega arith;
      } in w)
      (reason_cases j d c at implied named (get_or c i x) (Contains-get_or c i x lt))

  -- the place of a literal of a reason is that of the implied one, or the reason holds the negation of an earlier entry's
  pub place_cases : (j : ℕ) (d : Entry) (c : List ℤ) → slice_get es j ≡ Some d → 0 < d.reason → IsNumbered cs d.reason c → (i : ℕ)
      → HasPlace places c i → (i ≡ j) ⊎ ((e : Entry) × (i < j) × (slice_get es i ≡ Some e) × Contains c (neg_ℤ e.lit))
  place_cases j d c at implied named i h = ⊎_elim
      (λ (own : h.lit ≡ d.lit). inl (same_Some i j (sym h.there ∙ ap (λ y. slice_get places (var_of y)) own ∙ p.told j d at)))
      (λ (r : IsEarlier es j h.lit).
      let same : r.place ≡ i =
      same_Some r.place i (sym (place_neg r.place r.entry r.there) ∙ ap (λ y. slice_get places (var_of y)) (sym r.is) ∙ h.there) in
      let early : r.place < j = r.early in
      let lt : i < j = omega arith in
      inr (r.entry, lt, ap (slice_get es) (sym same) ∙ r.there, subst (λ (y : ℤ). Contains c y) r.is h.held))
      (reason_cases j d c at implied named h.lit h.held)

  -- the number of a reason
  pub reason_number : (j : ℕ) (d : Entry) → slice_get es j ≡ Some d → 0 < d.reason → d.reason ≤ length cs
  reason_number j d at implied =
      let a : Forces (lits_of (take j es)) cs d.reason d.lit = f j d at implied in
      let within : d.reason - 1 < length cs = slice_get_within cs (d.reason - 1) a.clause a.numbered.there in
      omega arith

  -- the reason of an entry after the least marked place of the present level is there
  pub reason_after : IsLevelled es → (lowest j : ℕ) (marks : List Bool) (d : Entry) → IsLowest es marks lowest → lowest < j
      → slice_get es j ≡ Some d → 0 < level_of es → 0 < d.reason
  reason_after l lowest j marks d k lt at present =
      let low : k.entry.level ≤ d.level = level_rises es l lowest j k.entry d lt k.there at in
      let high : d.level ≤ level_of es = level_most vars es t j d at in
      let is : k.entry.level ≡ level_of es = k.present in
      implied_after es l lowest j k.entry d lt k.there at (omega arith) (omega arith)

  -- past a marked entry, whose reason is marked
  pub past_marked : (n place : ℕ) (old new : List Bool) (lowest next : ℕ) (d : Entry) (c : List ℤ) → lowest < place
      → slice_get old place ≡ Some true → slice_get es place ≡ Some d → 0 < d.reason → IsNumbered cs d.reason c → Marks places c old new
      → Lowers es places (level_of es) c lowest next → IsAtPlace cs es n place old lowest → IsAtPlace cs es n (place - 1) new next
  past_marked n place old new lowest next d c lt own at implied named m l k =
      let within : place < length es = k.within in
      let back : place - 1 + 1 ≡ place = omega arith in
      let lower : next ≤ lowest = l.lower in
      let still : IsMarked cs es n place place = k.sound place own in
      let less : (i : ℕ) → IsMarked cs es n place i
      → IsMarked cs es n (place - 1) i = λ i h. marked_less cs es n place (place - 1) (omega arith) h in
      let reached : (i : ℕ) → HasPlace places c i → IsMarked cs es n (place - 1) i = λ i h. ⊎_elim
      (λ (same : i ≡ place). subst (λ (q : ℕ). IsMarked cs es n (place - 1) q) (sym same) (less place still))
      (λ (r : (e : Entry) × (i < place) × (slice_get es i ≡ Some e) × Contains c (neg_ℤ e.lit)). by_reason i place r.0 d c r.1
      (omega arith) r.2 at (less place still) named r.3)
      (place_cases place d c at implied named i h) in
      let low : IsLowest es old lowest = k.lowest_is in
      record {
        within = omega arith;
        sound = λ i h. ⊎_elim
            (λ (before : slice_get old i ≡ Some true). less i (k.sound i before))
            (λ (r : HasPlace places c i). reached i r)
            (m.only i h);
        complete = λ i marked. ⊎_elim
            (λ (before : IsMarked cs es n (place - 1 + 1) i). m.kept i
            (k.complete i (subst (λ (q : ℕ). IsMarked cs es n q i) back before)))
            (λ (r : IsMarked cs es n (place - 1 + 1) (place - 1 + 1) × IsHeldBy cs es (place - 1 + 1) i).
            let h : IsHeldBy cs es place i = subst (λ (q : ℕ). IsHeldBy cs es q i) back r.1 in
            let same : h.later ≡ d = same_Some h.later d (sym h.at ∙ at) in
            let reason : IsNumbered cs d.reason h.clause = subst (λ (x : Entry). IsNumbered cs x.reason h.clause) same h.named in
            let is : h.clause ≡ c = same_Some h.clause c (sym reason.there ∙ named.there) in
            m.held i (record {
              lit = neg_ℤ h.entry.lit;
              held = subst (λ (x : List ℤ). Contains x (neg_ℤ h.entry.lit)) is h.holds;
              there = place_neg i h.entry h.there;
            }))
            (marked_step cs es n (place - 1) marked);
        lowest_is = ⊎_elim
            (λ (same : next ≡ lowest).
            let r : IsLowest es new lowest =
            record {
              entry = low.entry;
              there = low.there;
              present = low.present;
              marked = m.kept lowest low.marked;
              least = λ i e there present h. let le : next ≤ i = least i e there present h in omega arith;
            } in
            subst (λ (q : ℕ). IsLowest es new q) (sym same) r)
            (λ (h : HasPlaceAt es places (level_of es) c next).
            let r : IsLowest es new next =
            record { entry = h.entry; there = h.there; present = h.present; marked = m.held next h.held; least = least } in r)
            l.own;
        low = omega arith;
        later = λ q later. ⊎_elim
            (λ (far : place < q). k.later q far)
            (λ (near : q ≤ place).
            let same : q ≡ place = omega arith in λ point.
            let at_place : IsPoint cs es n place = subst (λ (r : ℕ). IsPoint cs es n r) same point in
            at_place.alone lowest low.entry lt low.there low.present (k.sound lowest low.marked))
            (cases_lt place q);
      }
    where
      least : (i : ℕ) (e : Entry) → slice_get es i ≡ Some e → e.level ≡ level_of es → slice_get new i ≡ Some true → next ≤ i
      least i e there present h = ⊎_elim
          (λ (before : slice_get old i ≡ Some true).
          let le : lowest ≤ i = k.lowest_is.least i e there present before in
          let lower : next ≤ lowest = l.lower in
          omega arith)
          (λ (r : HasPlace places c i). l.least i (record { held = r; entry = e; there = there; present = present }))
          (m.only i h)
