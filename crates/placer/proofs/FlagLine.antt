-- The line of flags: the negations of kept entries, by the reasons of used ones.

use Rattle.std.proofs.Common.{◌≡◌, ◌≢◌, ℕ, ℤ, ◌<◌, ◌≤◌, Bool, true, false, List, [], ◌∷◌, ◌++◌, length, Some, map, refl, sym, ap, subst, ◌∙◌, arith}
use Rattle.std.specs.Prelude.{slice_get, neg_ℤ, flat_map, All, AllPairs, ◌||◌}
use Rattle.std.proofs.lemmas.List.{length-append, get_or_at}
use Rattle.std.proofs.lemmas.Option.{slice_get-get_or}
use Rattle.clause_base.specs.Lit.{var_of}
use Rattle.clause_base.specs.Refutation.{Derived, IsUnitRun}
use Rattle.clause_base.specs.Truth.{lits_of, IsNumbered, IsConflict}
use Rattle.clause_base.specs.declared.entry.Entry.{Entry}
use Rattle.clause_base.specs.declared.line.Line.{Line}
use Rattle.clause_base.proofs.LiteralLemmas.{var_neg}
use Rattle.trail.specs.Assignment.{IsTrail}
use Rattle.propagate.specs.Standing.{AreForced}
use Rattle.placer.specs.Marking.{negation_if, reason_if}
use Rattle.placer.proofs.Signs.{trail-apart, apart-pairs}
use Rattle.placer.proofs.FlagRun.{IsClosed, run_flags}
use Rattle.placer.proofs.KeptEntries.{all_kept, apart_kept, negated_kept}

-- an entry between others by its place
at_split : (es before : List Entry) (e : Entry) (rest : List Entry) → before ++ e ∷ rest ≡ es → slice_get es (length before) ≡ Some e
at_split es before e rest whole =
    let lt : length before < length (before ++ e ∷ rest) = omega (arith, length-append before (e ∷ rest)) in
    ap (λ xs. slice_get xs (length before)) (sym whole) ∙ slice_get-get_or (before ++ e ∷ rest) (length before) e lt
    ∙ ap Some (get_or_at before e rest e (length before) refl)

module _ (vars : ℕ) (cs : List (List ℤ)) (es : List Entry) (n : ℕ) (kept used : ℕ → Bool) (t : IsTrail vars es) (f : AreForced cs es)
    (one_flag : (v : ℕ) → used v ≡ true → kept v ≡ false)
    (implied : (i : ℕ) (e : Entry) → slice_get es i ≡ Some e → used (var_of e.lit) ≡ true → 0 < e.reason)
    (closed : (i : ℕ) (e : Entry) → slice_get es i ≡ Some e → used (var_of e.lit) ≡ true → (c : List ℤ) → IsNumbered cs e.reason c →
    IsClosed kept used c e.lit)
    (conflict : IsConflict (lits_of es) cs n)
    (flagged_conflict : All (λ y. (kept (var_of y) || used (var_of y)) ≡ true) conflict.clause) where
  -- from the kept entries the used reasons lead to the conflict
  run_kept : IsUnitRun cs (map neg_ℤ (flat_map (negation_if kept) es)) (flat_map (reason_if used) es ++ n ∷ [])
  run_kept = subst (λ (held : List ℤ). IsUnitRun cs held (flat_map (reason_if used) es ++ n ∷ [])) (sym (negated_kept kept es))
      (run_flags vars cs es n kept used t f one_flag
      (λ before e rest whole u. implied (length before) e (at_split es before e rest whole) u)
      (λ before e rest whole u c named. closed (length before) e (at_split es before e rest whole) u c named)
      conflict flagged_conflict)

  -- so the line of the flags is derived
  pub Derived_flags : (line : Line) → line.clause ≡ flat_map (negation_if kept) es → line.hints ≡ flat_map (reason_if used) es ++ n ∷ [] →
      Derived (record { vars = vars; clauses = cs }) line
  Derived_flags line clause_is hints_is = record {
    above = subst (λ (l : List ℤ). All (λ y. 0 < var_of y) l) (sym clause_is)
        (all_kept kept (λ y. 0 < var_of y) es (λ i e there h. subst (λ (v : ℕ). 0 < v) (sym (var_neg e.lit)) (t i e there).above));
    in_range = subst (λ (l : List ℤ). All (λ y. var_of y ≤ vars) l) (sym clause_is)
        (all_kept kept (λ y. var_of y ≤ vars) es
        (λ i e there h. subst (λ (v : ℕ). v ≤ vars) (sym (var_neg e.lit)) (t i e there).in_range));
    apart = subst (λ (l : List ℤ). AllPairs (λ x y. var_of x ≢ var_of y) l) (sym clause_is)
        (apart-pairs (flat_map (negation_if kept) es) (apart_kept kept es (trail-apart vars es t)));
    run = subst (λ (l : List ℤ). IsUnitRun cs (map neg_ℤ l) line.hints) (sym clause_is)
        (subst (λ (hs : List ℕ). IsUnitRun cs (map neg_ℤ (flat_map (negation_if kept) es)) hs) (sym hints_is) run_kept);
  }
