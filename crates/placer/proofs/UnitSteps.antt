-- One entry of a trail after those before it, and one hint of a run of unit clauses.

use Rattle.std.proofs.Common.{◌≡◌, ℕ, ℤ, ◌<◌, false, List, [], ◌∷◌, ◌++◌, length, take, get_or, Some, refl, ap, subst, ◌∙◌, arith}
use Rattle.std.specs.Prelude.{slice_get}
use Rattle.std.proofs.lemmas.List.{length-append, get_or_at, take_at}
use Rattle.std.proofs.lemmas.List.Elements.{All-weaker}
use Rattle.std.proofs.lemmas.Option.{slice_get-get_or}
use Rattle.clause_base.specs.Lit.{var_of}
use Rattle.clause_base.specs.Truth.{lits_of, value_in, Forces, IsFalse}
use Rattle.clause_base.specs.Refutation.{IsUnitRun}
use Rattle.clause_base.specs.declared.entry.Entry.{Entry}
use Rattle.clause_base.proofs.LiteralLemmas.{value_of_sign}
use Rattle.trail.specs.Assignment.{Follows, IsTrail}
use Rattle.trail.proofs.Order.{IsTrail-at}
use Rattle.propagate.specs.Standing.{AreForced}
use Rattle.placer.proofs.Signs.{In, AreApart, same-sign}

-- an entry with those before it
pub follows_at : (vars : ℕ) (before : List Entry) (e : Entry) (rest : List Entry) → IsTrail vars (before ++ e ∷ rest)
    → Follows vars before e
follows_at vars before e rest t =
    let lt : length before < length (before ++ e ∷ rest) = omega (arith, length-append before (e ∷ rest)) in
    let a : Follows vars (take (length before) (before ++ e ∷ rest)) (get_or (before ++ e ∷ rest) (length before) e) =
    IsTrail-at vars (before ++ e ∷ rest) t (length before) e lt in
    subst (λ (x : Entry). Follows vars before x) (get_or_at before e rest e (length before) refl)
    (subst (λ (b : List Entry). Follows vars b (get_or (before ++ e ∷ rest) (length before) e))
    (take_at before (e ∷ rest) (length before) refl) a)

-- the reason of an entry with those before it
pub forced_at : (cs : List (List ℤ)) (before : List Entry) (e : Entry) (rest : List Entry) → AreForced cs (before ++ e ∷ rest)
    → 0 < e.reason → Forces (lits_of before) cs e.reason e.lit
forced_at cs before e rest k implied =
    let lt : length before < length (before ++ e ∷ rest) = omega (arith, length-append before (e ∷ rest)) in
    let there : slice_get (before ++ e ∷ rest) (length before) ≡ Some e = slice_get-get_or (before ++ e ∷ rest) (length before) e lt
    ∙ ap Some (get_or_at before e rest e (length before) refl) in
    subst (λ (b : List Entry). Forces (lits_of b) cs e.reason e.lit) (take_at before (e ∷ rest) (length before) refl)
    (k (length before) e there implied)

-- one hint more in front of a run
pub IsUnitRun_step : (cs : List (List ℤ)) (held : List ℤ) (h : ℕ) (z : ℤ) (hs : List ℕ) → Forces held cs h z
    → IsUnitRun cs (held ++ z ∷ []) hs → IsUnitRun cs held (h ∷ hs)
IsUnitRun_step cs held h z [] a r = absurd r
IsUnitRun_step cs held h z (g ∷ hs) a r = (z, a, r)

-- a clause that is false by some literals is so by more of them
pub false_under : (all held front : List ℤ) → AreApart all → ((z : ℤ) → In z held → In z all) → ((z : ℤ) → In z front → In z held)
    → (clause : List ℤ) → IsFalse front clause → IsFalse held clause
false_under all held front apart sub pre clause h =
    All-weaker (λ z. value_in z front ≡ Some false) (λ z. value_in z held ≡ Some false)
    (λ z v. value_of_sign z front held (λ s e. same-sign all held front apart sub pre (var_of z) s e) false v) clause h
