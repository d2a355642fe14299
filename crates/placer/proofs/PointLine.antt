-- The line of the first implication point.

use Rattle.std.proofs.Common.{◌≡◌, ◌≢◌, ℕ, ℤ, ◌+◌, ◌<◌, ◌≤◌, Bool, true, false, List, [], ◌∷◌, ◌++◌, length, get_or, take, drop, Some, refl, sym, ap, subst, ◌∙◌, ⊎_elim, inl, inr, arith}
use Rattle.std.specs.Prelude.{slice_get, neg_ℤ, flat_map, Contains, All, Any, ◌||◌}
use Rattle.std.specs.Bool.{if◌then◌else◌}
use Rattle.std.proofs.lemmas.Bool.{cases_lt, cases_eq}
use Rattle.std.proofs.lemmas.List.{length-append, length-take-le, get_or-drop, take-append-drop, drop_more}
use Rattle.std.proofs.lemmas.List.Concat.{flat_map-append}
use Rattle.std.proofs.lemmas.List.Elements.{All-append, Contains-get_or}
use Rattle.std.proofs.lemmas.Option.{slice_get-get_or, slice_get_within, get_or_from_slice_get, same_Some}
use Rattle.clause_base.specs.Lit.{var_of}
use Rattle.clause_base.specs.Refutation.{Derived}
use Rattle.clause_base.specs.Truth.{lits_of, IsFalse, IsNumbered, IsConflict}
use Rattle.clause_base.specs.declared.entry.Entry.{Entry}
use Rattle.clause_base.specs.declared.line.Line.{Line}
use Rattle.clause_base.proofs.LiteralLemmas.{var_neg}
use Rattle.trail.specs.Assignment.{value_of, level_of, IsTrail, IsLevelled}
use Rattle.trail.proofs.Levels.{IsTrail-levelled}
use Rattle.propagate.specs.Standing.{AreForced}
use Rattle.propagate.proofs.Values.{false_there}
use Rattle.placer.specs.FirstPoint.{IsMarked, IsFirstPoint, IsKeptAt, IsFirstPointClause, by_conflict, by_reason}
use Rattle.placer.specs.Learning.{level_at, Asserts}
use Rattle.placer.specs.Marking.{ArePlaces, HasPlace, HasOther, IsLowest, IsAtPlace, Closes, IsBack, is_used, is_kept, negation_if, reason_if}
use Rattle.placer.proofs.FalseEntries.{IsNegatedBy, false_entry, take_entry, level_there, level_most, level_rises}
use Rattle.placer.proofs.Resolving.{IsEarlier, place_neg, reason_cases, reason_after}
use Rattle.placer.proofs.Closing.{implied_zero}
use Rattle.placer.proofs.Flags.{one_flag, IsKeptEntry, IsUsedEntry, kept_entry, used_entry, entry_kept, entry_flagged}
use Rattle.placer.proofs.FlagRun.{IsClosed}
use Rattle.placer.proofs.FlagLine.{Derived_flags}
use Rattle.placer.proofs.KeptEntries.{all_kept, kept_there, IsFromKept, there_kept}

module _ (vars : ℕ) (cs : List (List ℤ)) (es : List Entry) (places : List ℕ) (t : IsTrail vars es) (f : AreForced cs es)
    (p : ArePlaces vars es places) (n q : ℕ) (first marks : List Bool) (conflict : IsConflict (lits_of es) cs n)
    (k : IsAtPlace cs es n q first q) (z : Closes cs es places 0 first marks) (above : 0 < level_of es) where
  -- whether a variable's literal is kept
  abbrev kept : ℕ → Bool
  kept = is_kept es places marks q

  -- whether a variable's reason is used
  abbrev used : ℕ → Bool
  used = is_used es places marks q

  -- levels never fall
  levelled : IsLevelled es
  levelled = IsTrail-levelled vars es t

  -- variables count from 1
  over : (i : ℕ) (e : Entry) → slice_get es i ≡ Some e → 0 < var_of e.lit
  over i e there = (t i e there).above

  -- a mark above level 0 is one for the point
  first_marked : (i : ℕ) (e : Entry) → slice_get es i ≡ Some e → slice_get marks i ≡ Some true → 0 < e.level
      → slice_get first i ≡ Some true
  first_marked i e there on lt = ⊎_elim
      (λ (h : slice_get first i ≡ Some true). h)
      (λ (none : e.level ≡ 0). absurd (omega arith))
      (z.only i e there on)

  -- entries from the point on are above level 0
  high : (i : ℕ) (e : Entry) → q < i → slice_get es i ≡ Some e → 0 < e.level
  high i e lt there =
      let low : IsLowest es first q = k.lowest_is in
      let le : low.entry.level ≤ e.level = level_rises es levelled q i low.entry e lt low.there there in
      let is : low.entry.level ≡ level_of es = low.present in
      omega arith

  -- a marked entry has a flag, said of the negation of its literal
  flagged_neg : (i : ℕ) (e : Entry) (y : ℤ) → slice_get es i ≡ Some e → slice_get marks i ≡ Some true → y ≡ neg_ℤ e.lit
      → (kept (var_of y) || used (var_of y)) ≡ true
  flagged_neg i e y there on is = ap (λ v. kept v || used v) (ap var_of is ∙ var_neg e.lit)
      ∙ entry_flagged vars es places marks q i e t p there on

  -- a used entry is implied
  implied_used : (i : ℕ) (e : Entry) → slice_get es i ≡ Some e → used (var_of e.lit) ≡ true → 0 < e.reason
  implied_used i e there u =
      let r : IsUsedEntry marks q i e = used_entry vars es places marks q i e t p there u in
      ⊎_elim
      (λ (after : q < i). reason_after vars cs es places t f p levelled q i first e k.lowest_is after there above)
      (λ (none : e.level ≡ 0). implied_zero es levelled i e there none)
      r.resolved

  -- its reason is flagged
  closed_used : (i : ℕ) (e : Entry) → slice_get es i ≡ Some e → used (var_of e.lit) ≡ true → (c : List ℤ) → IsNumbered cs e.reason c
      → IsClosed kept used c e.lit
  closed_used i e there u c named x d lt =
      let y : ℤ = get_or c x d in
      let r : IsUsedEntry marks q i e = used_entry vars es places marks q i e t p there u in
      let implied : 0 < e.reason = implied_used i e there u in
      let holds : Contains c (get_or c x d) = Contains-get_or c x d lt in
      ⊎_elim
      (λ (own : get_or c x d ≡ e.lit). inl own)
      (λ (s : IsEarlier es i (get_or c x d)).
      let negation : Contains c (neg_ℤ s.entry.lit) = subst (λ (w : ℤ). Contains c w) s.is holds in
      let on : slice_get marks s.place ≡ Some true = ⊎_elim
      (λ (after : q < i).
      let up : 0 < e.level = high i e after there in
      let marked : IsMarked cs es n q i = k.sound i (first_marked i e there r.marked up) in
      z.kept s.place (k.complete s.place (by_reason s.place i s.entry e c s.early after s.there there marked named negation)))
      (λ (none : e.level ≡ 0).
      let h : HasPlace places c s.place =
      record { lit = neg_ℤ s.entry.lit; held = negation; there = place_neg vars cs es places t f p s.place s.entry s.there } in
      z.closed i e c s.place (omega arith) there none r.marked named h)
      r.resolved in
      inr (flagged_neg s.place s.entry (get_or c x d) s.there on s.is))
      (reason_cases vars cs es places t f p i e c there implied named (get_or c x d) holds)

  -- the conflict is flagged
  flagged_conflict : All (λ y. (kept (var_of y) || used (var_of y)) ≡ true) conflict.clause
  flagged_conflict x d lt =
      let holds : Contains conflict.clause (get_or conflict.clause x d) = Contains-get_or conflict.clause x d lt in
      let r : IsNegatedBy es (get_or conflict.clause x d) =
      false_entry (get_or conflict.clause x d) es over (conflict.all_false x d lt) in
      let marked : IsMarked cs es n q r.place =
      by_conflict r.place r.entry conflict.clause r.there conflict.numbered (subst (λ (w : ℤ). Contains conflict.clause w) r.is holds)
      in
      flagged_neg r.place r.entry (get_or conflict.clause x d) r.there (z.kept r.place (k.complete r.place marked)) r.is

  -- the line is derived
  pub Derived_kept : (line : Line) → line.clause ≡ flat_map (negation_if kept) es → line.hints ≡ flat_map (reason_if used) es ++ n ∷ [] →
      Derived (record { vars = vars; clauses = cs }) line
  Derived_kept line clause_is hints_is =
      Derived_flags vars cs es n kept used t f (λ v h. one_flag es places marks q v h)
      implied_used closed_used conflict flagged_conflict line
      clause_is hints_is

  -- all its literals are false
  pub false_kept : IsFalse (lits_of es) (flat_map (negation_if kept) es)
  false_kept = all_kept kept (λ y. value_of y es ≡ Some false) es (λ i e there h. false_there vars es i e t there)

  -- the point is kept
  point_kept : kept (var_of k.lowest_is.entry.lit) ≡ true
  point_kept =
      let low : IsLowest es first q = k.lowest_is in
      let is : low.entry.level ≡ level_of es = low.present in
      let r : IsKeptEntry marks q q low.entry = record { marked = z.kept q low.marked; within = omega arith; above = omega arith } in
      entry_kept vars es places marks q q low.entry t p low.there r

  -- the place is the first implication point
  pub first_point : IsFirstPoint cs es n q
  first_point = record {
    point = record {
      entry = k.lowest_is.entry;
      there = k.lowest_is.there;
      present = k.lowest_is.present;
      marked = k.sound q k.lowest_is.marked;
      alone = λ i e lt there present m. let le : q ≤ i = k.lowest_is.least i e there present (k.complete i m) in absurd (omega arith);
    };
    greatest = λ r point. ⊎_elim (λ (far : q < r). absurd (k.later r far point)) (λ (le : r ≤ q). le) (cases_lt q r);
  }

  -- the line's literals are those that it keeps
  pub IsFirstPointClause_kept : IsFirstPointClause cs es n (flat_map (negation_if kept) es)
  IsFirstPointClause_kept = record {
    place = q;
    first = first_point;
    literals = λ y. (there y, back y);
  }
    where
      there : (y : ℤ) → Contains (flat_map (negation_if kept) es) y → IsKeptAt cs es n q y
      there y h =
          let r : IsFromKept kept es y = there_kept kept es y h in
          let s : IsKeptEntry marks q r.place r.entry = kept_entry vars es places marks q r.place r.entry t p r.there r.passes in
          record {
            place = r.place;
            entry = r.entry;
            there = r.there;
            within = s.within;
            above = s.above;
            marked = k.sound r.place (first_marked r.place r.entry r.there s.marked s.above);
            is = r.is;
          }

      back : (y : ℤ) → IsKeptAt cs es n q y → Contains (flat_map (negation_if kept) es) y
      back y h =
          let s : IsKeptEntry marks q h.place h.entry =
          record { marked = z.kept h.place (k.complete h.place h.marked); within = h.within; above = h.above } in
          subst (λ (x : ℤ). Contains (flat_map (negation_if kept) es) x) (sym h.is)
          (kept_there kept es h.place h.entry h.there (entry_kept vars es places marks q h.place h.entry t p h.there s))

  -- the level of a literal
  level_neg : (i : ℕ) (e : Entry) → slice_get es i ≡ Some e → level_at (var_of (neg_ℤ e.lit)) es ≡ e.level
  level_neg i e there = ap (λ v. level_at v es) (var_neg e.lit) ∙ level_there es i e (λ j d at. (t j d at).fresh) there

  -- another kept literal is of a level up to `back`
  other_kept : (back i : ℕ) (e : Entry) → IsBack es places q (flat_map (negation_if kept) es) back → slice_get es i ≡ Some e → i ≢ q
      → kept (var_of e.lit) ≡ true → e.level ≤ back
  other_kept back i e b there ne on =
      b.most e.level (record {
        place = i;
        held = record {
          held =
              record { lit = neg_ℤ e.lit; held = kept_there kept es i e there on; there = place_neg vars cs es places t f p i e there };
          entry = e;
          there = there;
          present = refl;
        };
        apart = ne;
      })

  -- the line asserts
  pub Asserts_kept : (back : ℕ) → IsBack es places q (flat_map (negation_if kept) es) back
      → Asserts es (flat_map (negation_if kept) es) back
  Asserts_kept back b = record {
    all_false = false_kept;
    front = flat_map (negation_if kept) (take q es);
    own = neg_ℤ k.lowest_is.entry.lit;
    rest = flat_map (negation_if kept) (drop (q + 1) es);
    split = ap (flat_map (negation_if kept)) (sym whole)
        ∙ flat_map-append (negation_if kept) (take q es) (k.lowest_is.entry ∷ drop (q + 1) es)
        ∙ ap (λ c. flat_map (negation_if kept)
        (take q es) ++ ((if c then neg_ℤ k.lowest_is.entry.lit ∷ [] else []) ++ flat_map (negation_if kept) (drop (q + 1) es)))
        point_kept;
    present = level_neg q k.lowest_is.entry k.lowest_is.there ∙ k.lowest_is.present;
    above = both (λ y. 0 < level_at (var_of y) es) (λ i e there ne on.
        let s : IsKeptEntry marks q i e = kept_entry vars es places marks q i e t p there on in
        subst (λ (l : ℕ). 0 < l) (sym (level_neg i e there)) s.above);
    others = both (λ y. level_at (var_of y) es ≤ back)
        (λ i e there ne on. subst (λ (l : ℕ). l ≤ back) (sym (level_neg i e there)) (other_kept back i e b there ne on));
    below = ⊎_elim
        (λ (none : back ≡ 0). let lt : back < level_of es = omega arith in lt)
        (λ (h : HasOther es places q (flat_map (negation_if kept) es) back). other_below h)
        b.met;
    met = ⊎_elim
        (λ (none : back ≡ 0). inl none)
        (λ (h : HasOther es places q (flat_map (negation_if kept) es) back). inr (met_at h))
        b.met;
  }
    where
      inside : q < length es
      inside = slice_get_within es q k.lowest_is.entry k.lowest_is.there

      whole : take q es ++ k.lowest_is.entry ∷ drop (q + 1) es ≡ es
      whole =
          let lt : q < length es = inside in
          let is : get_or es q k.lowest_is.entry ≡ k.lowest_is.entry =
          get_or_from_slice_get es q k.lowest_is.entry k.lowest_is.entry k.lowest_is.there in
          ap (λ x. take q es ++ x ∷ drop (q + 1) es) (sym is) ∙ ap (λ r. take q es ++ r) (sym (drop_more es q k.lowest_is.entry lt))
          ∙ take-append-drop q es

      drop_entry : (m i : ℕ) (e : Entry) → m ≤ length es → slice_get (drop m es) i ≡ Some e → slice_get es (m + i) ≡ Some e
      drop_entry m i e le there =
          let lt : i < length (drop m es) = slice_get_within (drop m es) i e there in
          let total : length es ≡ length (take m es) + length (drop m es) = ap length (sym (take-append-drop m es))
          ∙ length-append (take m es) (drop m es) in
          let size : length (take m es) ≡ m = length-take-le m es le in
          slice_get-get_or es (m + i) e (omega arith)
          ∙ ap Some (sym (get_or-drop m es i e) ∙ get_or_from_slice_get (drop m es) i e e there)

      both : (P : ℤ → Type 0) → ((i : ℕ) (e : Entry) → slice_get es i ≡ Some e → i ≢ q → kept (var_of e.lit) ≡ true → P (neg_ℤ e.lit))
          → All P (flat_map (negation_if kept) (take q es) ++ flat_map (negation_if kept) (drop (q + 1) es))
      both P h = All-append P (flat_map (negation_if kept) (take q es)) (flat_map (negation_if kept) (drop (q + 1) es))
          (all_kept kept P (take q es) (λ i e there on.
          let lt : q < length es = inside in
          let s : (i < q) × (slice_get es i ≡ Some e) = take_entry es q i e (omega arith) there in
          let early : i < q = s.0 in
          let ne : i ≢ q = omega arith in
          h i e s.1 ne on))
          (all_kept kept P (drop (q + 1) es) (λ i e there on.
          let lt : q < length es = inside in
          let ne : q + 1 + i ≢ q = omega arith in
          h (q + 1 + i) e (drop_entry (q + 1) i e (omega arith) there) ne on))

      -- the entry of another literal
      from_other : (h : HasOther es places q (flat_map (negation_if kept) es) back) → kept (var_of h.held.entry.lit) ≡ true
      from_other h =
          let r : IsFromKept kept es h.held.held.lit = there_kept kept es h.held.held.lit h.held.held.held in
          let same : r.place ≡ h.place =
          same_Some r.place h.place
          (sym (place_neg vars cs es places t f p r.place r.entry r.there) ∙ ap (λ y. slice_get places (var_of y)) (sym r.is)
          ∙ h.held.held.there) in
          let is : r.entry ≡ h.held.entry = same_Some r.entry h.held.entry (sym r.there ∙ ap (slice_get es) same ∙ h.held.there) in
          ap (λ (e : Entry). kept (var_of e.lit)) (sym is) ∙ r.passes

      other_below : HasOther es places q (flat_map (negation_if kept) es) back → back < level_of es
      other_below h =
          let s : IsKeptEntry marks q h.place h.held.entry =
          kept_entry vars es places marks q h.place h.held.entry t p h.held.there (from_other h) in
          let le : h.held.entry.level ≤ level_of es = level_most vars es t h.place h.held.entry h.held.there in
          let is : h.held.entry.level ≡ back = h.held.present in
          let within : h.place ≤ q = s.within in
          let ne : h.place ≢ q = h.apart in
          ⊎_elim
          (λ (same : h.held.entry.level ≡ level_of es).
          let least : q ≤ h.place =
          k.lowest_is.least h.place h.held.entry h.held.there same (first_marked h.place h.held.entry h.held.there s.marked s.above)
          in
          absurd (omega arith))
          (λ (other : h.held.entry.level ≡ level_of es → ⊥). let lt : back < level_of es = omega arith in lt)
          (cases_eq h.held.entry.level (level_of es))

      met_at : HasOther es places q (flat_map (negation_if kept) es) back
          → Any (λ y. level_at (var_of y) es ≡ back) (flat_map (negation_if kept) es)
      met_at h =
          let c : Contains (flat_map (negation_if kept) es) h.held.held.lit = h.held.held.held in
          let r : IsFromKept kept es h.held.held.lit = there_kept kept es h.held.held.lit c in
          let same : r.place ≡ h.place =
          same_Some r.place h.place
          (sym (place_neg vars cs es places t f p r.place r.entry r.there) ∙ ap (λ y. slice_get places (var_of y)) (sym r.is)
          ∙ h.held.held.there) in
          let is : r.entry ≡ h.held.entry = same_Some r.entry h.held.entry (sym r.there ∙ ap (slice_get es) same ∙ h.held.there) in (
            c.0,
            h.held.held.lit,
            c.1,
            c.2,
            ap (λ y. level_at (var_of y) es) r.is ∙ level_neg r.place r.entry r.there
                ∙ ap (λ (e : Entry). e.level) is ∙ h.held.present,
          )

-- entries from the point on are above level 0
pub begun_at : (vars : ℕ) (cs : List (List ℤ)) (es : List Entry) (n q : ℕ) (marks : List Bool) → IsTrail vars es
    → IsAtPlace cs es n q marks q → 0 < level_of es → (i : ℕ) (e : Entry) → q ≤ i → slice_get es i ≡ Some e → 0 < e.level
begun_at vars cs es n q marks t k above i e le there =
    let low : IsLowest es marks q = k.lowest_is in
    let is : low.entry.level ≡ level_of es = low.present in
    ⊎_elim
    (λ (lt : q < i). let rises : low.entry.level ≤ e.level =
    level_rises es (IsTrail-levelled vars es t) q i low.entry e lt low.there there in let up : 0 < e.level = omega arith in up)
    (λ (ge : i ≤ q).
    let same : i ≡ q = omega arith in
    let own : e ≡ low.entry = same_Some e low.entry (sym there ∙ ap (slice_get es) same ∙ low.there) in
    let level : e.level ≡ low.entry.level = ap (λ (x : Entry). x.level) own in
    let up : 0 < e.level = omega arith in up)
    (cases_lt q i)
