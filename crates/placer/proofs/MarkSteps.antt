-- Marks, least places and greatest levels of a clause with one literal more.

use Rattle.std.proofs.Common.{◌≡◌, ◌≢◌, ℕ, ℤ, ◌+◌, ◌<◌, ◌≤◌, ◌⊎◌, Bool, true, List, [], ◌∷◌, ◌++◌, length, get_or, set, take, Some, refl, sym, ap, subst, ◌∙◌, ⊎_elim, inl, inr, arith}
use Rattle.std.specs.Prelude.{slice_get, Contains}
use Rattle.std.proofs.lemmas.Bool.{cases_eq}
use Rattle.std.proofs.lemmas.List.{length-set, take_more}
use Rattle.std.proofs.lemmas.List.Elements.{Contains-append_left, Contains-push, Contains-push_cases}
use Rattle.std.proofs.lemmas.Option.{same_Some, get_or_from_slice_get}
use Rattle.clause_base.specs.Lit.{var_of}
use Rattle.clause_base.specs.declared.entry.Entry.{Entry}
use Rattle.clause_base.proofs.ListLemmas.{get_set_same, get_set_other, get_set_cases}
use Rattle.placer.specs.Marking.{IsWithin, HasPlace, HasPlaceAt, HasOther, Marks, Lowers, IsBack}

-- a place of a literal stays with one literal more
has_left : (places : List ℕ) (xs : List ℤ) (z : ℤ) (k : ℕ) → HasPlace places xs k → HasPlace places (xs ++ z ∷ []) k
has_left places xs z k h = record { lit = h.lit; held = Contains-append_left xs (z ∷ []) h.lit h.held; there = h.there }

-- the place of the last literal
has_last : (places : List ℕ) (xs : List ℤ) (z : ℤ) (k : ℕ) → slice_get places (var_of z) ≡ Some k → HasPlace places (xs ++ z ∷ []) k
has_last places xs z k there = record { lit = z; held = Contains-push xs z; there = there }

-- a place is that of the last literal or of one before
has_push : (places : List ℕ) (xs : List ℤ) (z : ℤ) (k : ℕ) → HasPlace places (xs ++ z ∷ []) k
    → HasPlace places xs k ⊎ (slice_get places (var_of z) ≡ Some k)
has_push places xs z k h = ⊎_elim
    (λ (old : Contains xs h.lit). let r : HasPlace places xs k = record { lit = h.lit; held = old; there = h.there } in inl r)
    (λ (same : z ≡ h.lit). inr (ap (λ y. slice_get places (var_of y)) same ∙ h.there))
    (Contains-push_cases xs z h.lit h.held)

-- one literal more is marked
pub Marks_push : (places : List ℕ) (xs : List ℤ) (z : ℤ) (p : ℕ) (old mid : List Bool) → slice_get places (var_of z) ≡ Some p
    → p < length mid → Marks places xs old mid → Marks places (xs ++ z ∷ []) old (set mid p true)
Marks_push places xs z p old mid there lt k =
    let still : (i : ℕ) → slice_get mid i ≡ Some true → slice_get (set mid p true) i ≡ Some true = λ i h. ⊎_elim
    (λ (same : i ≡ p). ap (slice_get (set mid p true)) same ∙ get_set_same mid p true lt)
    (λ (other : i ≡ p → ⊥). get_set_other mid p i true other ∙ h)
    (cases_eq i p) in
    record {
      sized = length-set mid p true ∙ k.sized;
      kept = λ i h. still i (k.kept i h);
      held = λ i h. ⊎_elim
          (λ (before : HasPlace places xs i). still i (k.held i before))
          (λ (last : slice_get places (var_of z) ≡ Some i). let same : p ≡ i = same_Some p i (sym there ∙ last) in
          ap (slice_get (set mid p true)) (sym same) ∙ get_set_same mid p true lt)
          (has_push places xs z i h);
      only = λ i h. ⊎_elim
          (λ (new_one : (i ≡ p) × (true ≡ true)). inr (has_last places xs z i (there ∙ ap Some (sym new_one.0))))
          (λ (before : slice_get mid i ≡ Some true). ⊎_elim
          (λ (a : slice_get old i ≡ Some true). inl a)
          (λ (b : HasPlace places xs i). inr (has_left places xs z i b))
          (k.only i before))
          (get_set_cases mid p i true true h);
    }

-- the least place with one literal more
pub Lowers_push : (es : List Entry) (places : List ℕ) (level : ℕ) (xs : List ℤ) (z : ℤ) (p : ℕ) (e : Entry) (old mid new : ℕ)
    → slice_get places (var_of z) ≡ Some p → slice_get es p ≡ Some e → new ≤ mid → (e.level ≡ level → new ≤ p)
    → (new ≡ mid) ⊎ ((new ≡ p) × (e.level ≡ level)) → Lowers es places level xs old mid → Lowers es places level (xs ++ z ∷ []) old new
Lowers_push es places level xs z p e old mid new there at lower least own k =
    let below : mid ≤ old = k.lower in
    record {
      lower = omega arith;
      least = λ i h. ⊎_elim
          (λ (before : HasPlace places xs i).
          let b : HasPlaceAt es places level xs i = record { held = before; entry = h.entry; there = h.there; present = h.present } in
          let le : mid ≤ i = k.least i b in
          omega arith)
          (λ (last : slice_get places (var_of z) ≡ Some i).
          let same : p ≡ i = same_Some p i (sym there ∙ last) in
          let is : h.entry ≡ e = same_Some h.entry e (sym h.there ∙ ap (slice_get es) (sym same) ∙ at) in
          let le : new ≤ p = least (ap (λ (x : Entry). x.level) (sym is) ∙ h.present) in
          omega arith)
          (has_push places xs z i h.held);
      own = ⊎_elim
          (λ (a : new ≡ mid). ⊎_elim
          (λ (b : mid ≡ old). inl (a ∙ b))
          (λ (b : HasPlaceAt es places level xs mid). let r : HasPlaceAt es places level (xs ++ z ∷ []) mid =
          record { held = has_left places xs z mid b.held; entry = b.entry; there = b.there; present = b.present } in
          inr (subst (λ i. HasPlaceAt es places level (xs ++ z ∷ []) i) (sym a) r))
          k.own)
          (λ (a : (new ≡ p) × (e.level ≡ level)). let r : HasPlaceAt es places level (xs ++ z ∷ []) p =
          record { held = has_last places xs z p there; entry = e; there = at; present = a.1 } in
          inr (subst (λ i. HasPlaceAt es places level (xs ++ z ∷ []) i) (sym a.0) r))
          own;
    }

-- the greatest level with one literal more
pub IsBack_push : (es : List Entry) (places : List ℕ) (point : ℕ) (xs : List ℤ) (z : ℤ) (p : ℕ) (e : Entry) (mid new : ℕ)
    → slice_get places (var_of z) ≡ Some p → slice_get es p ≡ Some e → mid ≤ new → (p ≢ point → e.level ≤ new)
    → (new ≡ mid) ⊎ ((new ≡ e.level) × (p ≢ point)) → IsBack es places point xs mid → IsBack es places point (xs ++ z ∷ []) new
IsBack_push es places point xs z p e mid new there at lower most own k =
    let more : (l : ℕ) → HasOther es places point xs l
    → HasOther es places point (xs ++ z ∷ []) l =
    λ l b. record {
      place = b.place;
      held = record {
        held = has_left places xs z b.place b.held.held;
        entry = b.held.entry;
        there = b.held.there;
        present = b.held.present;
      };
      apart = b.apart;
    } in
    record {
      most = λ l h. ⊎_elim
          (λ (before : HasPlace places xs h.place).
          let b : HasOther es places point xs l =
          record {
            place = h.place;
            held = record { held = before; entry = h.held.entry; there = h.held.there; present = h.held.present };
            apart = h.apart;
          } in
          let le : l ≤ mid = k.most l b in
          omega arith)
          (λ (last : slice_get places (var_of z) ≡ Some h.place).
          let same : p ≡ h.place = same_Some p h.place (sym there ∙ last) in
          let is : h.held.entry ≡ e = same_Some h.held.entry e (sym h.held.there ∙ ap (slice_get es) (sym same) ∙ at) in
          let le : e.level ≤ new = most (λ s. h.apart (sym same ∙ s)) in
          let level : e.level ≡ l = ap (λ (x : Entry). x.level) (sym is) ∙ h.held.present in
          omega arith)
          (has_push places xs z h.place h.held.held);
      met = ⊎_elim
          (λ (a : new ≡ mid). ⊎_elim
          (λ (b : mid ≡ 0). inl (a ∙ b))
          (λ (b : HasOther es places point xs mid). inr (subst (λ l. HasOther es places point (xs ++ z ∷ []) l) (sym a) (more mid b)))
          k.met)
          (λ (a : (new ≡ e.level) × (p ≢ point)). let r : HasOther es places point (xs ++ z ∷ []) e.level =
          record {
            place = p;
            held = record { held = has_last places xs z p there; entry = e; there = at; present = refl };
            apart = a.1;
          } in inr (subst (λ l. HasOther es places point (xs ++ z ∷ []) l) (sym a.0) r))
          own;
    }

-- the next literal of a clause
pub next_lit : (clause : List ℤ) (i : ℕ) (z : ℤ) → i < length clause → z ≡ get_or clause i z
    → take (i + 1) clause ≡ take i clause ++ z ∷ []
next_lit clause i z lt is = take_more clause i z lt ∙ ap (λ y. take i clause ++ y ∷ []) (sym is)

-- the place that is read for a literal
pub read_place : (places : List ℕ) (count : ℕ) (z : ℤ) (v : ℕ) (w : IsWithin places count z) → v ≡ var_of z → get_or places v 0 ≡ w.place
read_place places count z v w e = ap (λ u. get_or places u 0) e ∙ get_or_from_slice_get places (var_of z) w.place 0 w.there
