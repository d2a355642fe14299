use Rattle.std.proofs.Common.{◌≡◌, ℕ, zero, suc, ℤ, ◌-◌, ◌<◌, ◌≤◌, List, [], ◌∷◌, ◌++◌, length, get_or, Option, Some, None, refl, ap, ◌∙◌, arith}
use Rattle.std.specs.Prelude.{slice_get}
use Rattle.std.proofs.lemmas.Option.{slice_get-get_or}
use Rattle.clause_base.specs.Truth.{IsNumbered, IsConflict, Forces}
use Rattle.clause_base.specs.Refutation.{IsUnitRun}
use Rattle.refute_check.specs.declared.derivation.ClauseStatus.{ClauseStatus}
use Rattle.refute_check.specs.declared.derivation.ClauseStatus.TheVariants.{Settled, Unit, False}
use Rattle.refute_check.specs.Hints.{look_on, clause_at, held_with, held_by, held_after, last_fault, judged_last, AreHints}
use Rattle.refute_check.proofs.LookLaws.{unit_seen, single_seen, false_seen, false_keeps}

-- the clause of a number in range
pub numbered_at : (clauses : List (List ℤ)) (h : ℕ) → 0 < h → h ≤ length clauses → IsNumbered clauses h (clause_at clauses h)
numbered_at clauses h above le = record { above = above; there = slice_get-get_or clauses (h - 1) [] (omega arith) }

get_or-get : (cs : List (List ℤ)) (k : ℕ) (c : List ℤ) → slice_get cs k ≡ Some c → get_or cs k [] ≡ c
get_or-get [] k c h = cc
get_or-get (x ∷ xs) zero c h = cc
get_or-get (x ∷ xs) (suc k) c h = get_or-get xs k c h

pub numbered_is : (clauses : List (List ℤ)) (h : ℕ) (c : List ℤ) → IsNumbered clauses h c → clause_at clauses h ≡ c
numbered_is clauses h c n = get_or-get clauses (h - 1) c n.there

-- as the reader goes: the hints before the last, and the last
pub record Runs (clauses : List (List ℤ)) (held : List ℤ) (front : List ℕ) (last : ℕ) : Type 0 where
  pub holds : List ℤ
  pub units : held_after clauses (Some held) front ≡ Some holds
  pub conflict : IsConflict holds clauses last

pub run_splits : (clauses : List (List ℤ)) (held : List ℤ) (front : List ℕ) (last : ℕ) → IsUnitRun clauses held (front ++ last ∷ [])
    → Runs clauses held front last
unfolding held_after
run_splits clauses held [] last r = record { holds = held; units = refl; conflict = r }
run_splits clauses held (h ∷ []) last r =
    let a = r.1 in
    let step : held_by clauses held h ≡ Some (held ++ r.0 ∷ []) =
    ap (λ c. held_with held (look_on held c False)) (numbered_is clauses h a.clause a.numbered)
    ∙ ap (held_with held) (unit_seen held a.clause r.0 a.unit) in
    let rest = run_splits clauses (held ++ r.0 ∷ []) [] last r.2 in
    record {
      holds = rest.holds;
      units = ap (λ (o : Option (List ℤ)). held_after clauses o []) step ∙ rest.units;
      conflict = rest.conflict;
    }
run_splits clauses held (h ∷ (g ∷ gs)) last r =
    let a = r.1 in
    let step : held_by clauses held h ≡ Some (held ++ r.0 ∷ []) =
    ap (λ c. held_with held (look_on held c False)) (numbered_is clauses h a.clause a.numbered)
    ∙ ap (held_with held) (unit_seen held a.clause r.0 a.unit) in
    let rest = run_splits clauses (held ++ r.0 ∷ []) (g ∷ gs) last r.2 in
    record {
      holds = rest.holds;
      units = ap (λ (o : Option (List ℤ)). held_after clauses o (g ∷ gs)) step ∙ rest.units;
      conflict = rest.conflict;
    }

-- a run passes the test
pub run_passes : (clauses : List (List ℤ)) (held : List ℤ) (front : List ℕ) (last : ℕ) → IsUnitRun clauses held (front ++ last ∷ [])
    → judged_last clauses (held_after clauses (Some held) front) last ≡ None
run_passes clauses held front last r =
    let s = run_splits clauses held front last r in
    let c = s.conflict in
    let seen : look_on s.holds (clause_at clauses last) False ≡ False =
    ap (λ (k : List ℤ). look_on s.holds k False) (numbered_is clauses last c.clause c.numbered)
    ∙ false_keeps s.holds c.clause False c.all_false in
    ap (λ (o : Option (List ℤ)). judged_last clauses o last) s.units ∙ ap last_fault seen

run_step : (cs : List (List ℤ)) (held : List ℤ) (h : ℕ) (z : ℤ) (hs : List ℕ) → Forces held cs h z → IsUnitRun cs (held ++ z ∷ []) hs
    → IsUnitRun cs held (h ∷ hs)
run_step cs held h z [] a r = absurd r
run_step cs held h z (g ∷ hs) a r = (z, a, r)

none_stays : (clauses : List (List ℤ)) (hs : List ℕ) → held_after clauses None hs ≡ None
unfolding held_after
none_stays clauses [] = refl
none_stays clauses (h ∷ hs) = refl

last_false : (look : ClauseStatus) → last_fault look ≡ None → look ≡ False
last_false False e = refl
last_false (Unit z) e = cc
last_false Settled e = cc

-- what passes the test is a run
pub passed_runs : (clauses : List (List ℤ)) (held : List ℤ) (front : List ℕ) (last : ℕ) → AreHints clauses (front ++ last ∷ [])
    → judged_last clauses (held_after clauses (Some held) front) last ≡ None → IsUnitRun clauses held (front ++ last ∷ [])
unfolding held_after
passed_runs clauses held [] last hints e =
    let h = hints 0 last (omega arith) in
    record {
      clause = clause_at clauses last;
      numbered = numbered_at clauses last h.0 h.1;
      all_false = false_seen held (clause_at clauses last) (last_false (look_on held (clause_at clauses last) False) e);
    }
passed_runs clauses held (h ∷ hs) last hints e =
    by (look_on held (clause_at clauses h) False) refl
    (λ z. passed_runs clauses (held ++ z ∷ []) hs last (λ k d lt. hints (suc k) d (omega arith))) e
  where
    by : (look : ClauseStatus) → look_on held (clause_at clauses h) False ≡ look
        → ((z : ℤ) → judged_last clauses (held_after clauses (Some (held ++ z ∷ [])) hs) last ≡ None
        → IsUnitRun clauses (held ++ z ∷ []) (hs ++ last ∷ []))
        → judged_last clauses (held_after clauses (held_with held look) hs) last ≡ None → IsUnitRun clauses held (h ∷ (hs ++ last ∷ []))
    by (Unit z) seen k j =
        let n = hints 0 h (omega arith) in
        run_step clauses held h z (hs ++ last ∷ [])
        (record {
          clause = clause_at clauses h;
          numbered = numbered_at clauses h n.0 n.1;
          unit = single_seen held (clause_at clauses h) z seen;
        }) (k z j)
    by Settled seen k j = let s = none_stays clauses hs in cc
    by False seen k j = let s = none_stays clauses hs in cc
