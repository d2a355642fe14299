-- The line with no literal that a conflict at level 0 gives, by the reasons that the conflict stands on.

use Rattle.std.proofs.Common.{◌≡◌, ℕ, ℤ, suc, ◌<◌, ◌≤◌, Bool, true, false, List, [], ◌∷◌, ◌++◌, get_or, Some, refl, ap, subst, ◌∙◌, ⊎_elim, inl, inr, arith}
use Rattle.std.specs.Prelude.{slice_get, neg_ℤ, flat_map, Contains, All, ◌||◌}
use Rattle.std.specs.Bool.{if◌then◌else◌}
use Rattle.std.proofs.lemmas.List.Elements.{Contains-get_or}
use Rattle.clause_base.specs.Lit.{var_of}
use Rattle.clause_base.specs.Refutation.{Derived}
use Rattle.clause_base.specs.Truth.{lits_of, IsNumbered, IsConflict}
use Rattle.clause_base.specs.declared.entry.Entry.{Entry}
use Rattle.clause_base.specs.declared.line.Line.{Line}
use Rattle.clause_base.proofs.LiteralLemmas.{var_neg}
use Rattle.trail.specs.Assignment.{level_of, IsTrail, IsLevelled}
use Rattle.trail.proofs.Levels.{IsTrail-levelled}
use Rattle.propagate.specs.Standing.{AreForced}
use Rattle.placer.specs.Marking.{ArePlaces, HasPlace, Marks, Closes, is_used, is_kept, negation_if, reason_if}
use Rattle.placer.proofs.FalseEntries.{IsNegatedBy, false_entry, level_most}
use Rattle.placer.proofs.Resolving.{IsEarlier, place_neg, reason_cases}
use Rattle.placer.proofs.Closing.{implied_zero}
use Rattle.placer.proofs.Flags.{one_flag, IsKeptEntry, IsUsedEntry, kept_entry, used_entry, entry_flagged}
use Rattle.placer.proofs.FlagRun.{IsClosed}
use Rattle.placer.proofs.FlagLine.{Derived_flags}

-- where no entry is kept, no literal is
none_of : (k : ℕ → Bool) (es : List Entry) → ((i : ℕ) (e : Entry) → slice_get es i ≡ Some e → k (var_of e.lit) ≡ false)
    → flat_map (negation_if k) es ≡ []
none_of k [] h = refl
none_of k (e ∷ es) h = ap (λ b. (if b then neg_ℤ e.lit ∷ [] else []) ++ flat_map (negation_if k) es) (h 0 e refl)
    ∙ none_of k es (λ i d there. h (suc i) d there)

module _ (vars : ℕ) (cs : List (List ℤ)) (es : List Entry) (places : List ℕ) (t : IsTrail vars es) (f : AreForced cs es)
    (p : ArePlaces vars es places) (n : ℕ) (conflict : IsConflict (lits_of es) cs n) (blank first marks : List Bool)
    (m : Marks places conflict.clause blank first) (z : Closes cs es places 0 first marks) (low : level_of es ≡ 0) where
  -- whether a variable's literal is kept
  abbrev kept : ℕ → Bool
  kept = is_kept es places marks 0

  -- whether a variable's reason is used
  abbrev used : ℕ → Bool
  used = is_used es places marks 0

  -- levels never fall
  levelled : IsLevelled es
  levelled = IsTrail-levelled vars es t

  -- each entry is of level 0
  level_zero : (i : ℕ) (e : Entry) → slice_get es i ≡ Some e → e.level ≡ 0
  level_zero i e there = let most : e.level ≤ level_of es = level_most vars es t i e there in omega arith

  -- no entry is kept
  pub empty_line : flat_map (negation_if kept) es ≡ []
  empty_line = none_of kept es (λ i e there. by i e there (kept (var_of e.lit)) refl)
    where
      by : (i : ℕ) (e : Entry) → slice_get es i ≡ Some e → (b : Bool) → kept (var_of e.lit) ≡ b → b ≡ false
      by i e there false h = refl
      by i e there true h =
          let r : IsKeptEntry marks 0 i e = kept_entry vars es places marks 0 i e t p there h in
          let none : e.level ≡ 0 = level_zero i e there in
          let above : 0 < e.level = r.above in
          absurd (omega arith)

  -- a marked entry has a flag, said of the negation of its literal
  flagged_neg : (i : ℕ) (e : Entry) (y : ℤ) → slice_get es i ≡ Some e → slice_get marks i ≡ Some true → y ≡ neg_ℤ e.lit →
      (kept (var_of y) || used (var_of y)) ≡ true
  flagged_neg i e y there on is = ap (λ v. kept v || used v) (ap var_of is ∙ var_neg e.lit)
      ∙ entry_flagged vars es places marks 0 i e t p there on

  -- the reason of a used entry is flagged
  closed_used : (i : ℕ) (e : Entry) → slice_get es i ≡ Some e → used (var_of e.lit) ≡ true → (c : List ℤ) → IsNumbered cs e.reason c →
      IsClosed kept used c e.lit
  closed_used i e there u c named x d lt =
      let r : IsUsedEntry marks 0 i e = used_entry vars es places marks 0 i e t p there u in
      let none : e.level ≡ 0 = level_zero i e there in
      let implied : 0 < e.reason = implied_zero es levelled i e there none in
      let holds : Contains c (get_or c x d) = Contains-get_or c x d lt in
      ⊎_elim
      (λ (own : get_or c x d ≡ e.lit). inl own)
      (λ (s : IsEarlier es i (get_or c x d)).
      let negation : Contains c (neg_ℤ s.entry.lit) = subst (λ (w : ℤ). Contains c w) s.is holds in
      let h : HasPlace places c s.place =
      record { lit = neg_ℤ s.entry.lit; held = negation; there = place_neg vars cs es places t f p s.place s.entry s.there } in
      let on : slice_get marks s.place ≡ Some true = z.closed i e c s.place (omega arith) there none r.marked named h in
      inr (flagged_neg s.place s.entry (get_or c x d) s.there on s.is))
      (reason_cases vars cs es places t f p i e c there implied named (get_or c x d) holds)

  -- the conflict is flagged
  flagged_conflict : All (λ y. (kept (var_of y) || used (var_of y)) ≡ true) conflict.clause
  flagged_conflict x d lt =
      let holds : Contains conflict.clause (get_or conflict.clause x d) = Contains-get_or conflict.clause x d lt in
      let r : IsNegatedBy es (get_or conflict.clause x d) =
      false_entry (get_or conflict.clause x d) es (λ i e there. (t i e there).above) (conflict.all_false x d lt) in
      let negation : Contains conflict.clause (neg_ℤ r.entry.lit) = subst (λ (w : ℤ). Contains conflict.clause w) r.is holds in
      let h : HasPlace places conflict.clause r.place =
      record { lit = neg_ℤ r.entry.lit; held = negation; there = place_neg vars cs es places t f p r.place r.entry r.there } in
      flagged_neg r.place r.entry (get_or conflict.clause x d) r.there (z.kept r.place (m.held r.place h)) r.is

  -- the line is derived
  pub Derived_last : (line : Line) → line.clause ≡ flat_map (negation_if kept) es → line.hints ≡ flat_map (reason_if used) es ++ n ∷ [] →
      Derived (record { vars = vars; clauses = cs }) line
  Derived_last line clause_is hints_is =
      Derived_flags vars cs es n kept used t f (λ v h. one_flag es places marks 0 v h)
      (λ i e there u. implied_zero es levelled i e there (level_zero i e there))
      closed_used conflict flagged_conflict line clause_is hints_is
