use Rattle.std.proofs.Common.{◌≡◌, zero, suc, ℤ, ◌<◌, Bool, true, false, List, [], ◌∷◌, ◌++◌, length, get_or, Option, Some, None, refl, sym, ap, subst, ◌∙◌, arith}
use Rattle.std.specs.Prelude.{All}
use Rattle.std.proofs.lemmas.List.{get_or_at, length-append}
use Rattle.clause_base.specs.Truth.{value_in, IsFalse, IsUnit}
use Rattle.refute_check.specs.declared.derivation.ClauseStatus.{ClauseStatus}
use Rattle.refute_check.specs.declared.derivation.ClauseStatus.TheVariants.{Settled, Unit, False}
use Rattle.refute_check.specs.Hints.{seen_with, look_on}

false_none : (held : List ℤ) → IsFalse held []
false_none held k d lt = absurd (omega arith)

false_more : (held : List ℤ) (z : ℤ) (zs : List ℤ) → value_in z held ≡ Some false → IsFalse held zs → IsFalse held (z ∷ zs)
false_more held z zs v h zero d lt = v
false_more held z zs v h (suc k) d lt = h k d (omega arith)

false_head : (held : List ℤ) (z : ℤ) (zs : List ℤ) → IsFalse held (z ∷ zs) → value_in z held ≡ Some false
false_head held z zs h = h 0 z (omega arith)

false_tail : (held : List ℤ) (z : ℤ) (zs : List ℤ) → IsFalse held (z ∷ zs) → IsFalse held zs
false_tail held z zs h k d lt = h (suc k) d (omega arith)

-- a settled clause stays so
pub settled_stays : (held zs : List ℤ) → look_on held zs Settled ≡ Settled
unfolding look_on
settled_stays held [] = refl
settled_stays held (z ∷ zs) = by (value_in z held) (settled_stays held zs)
  where
    by : (o : Option Bool) → look_on held zs Settled ≡ Settled → look_on held zs (seen_with z o Settled) ≡ Settled
    by (Some true) h = h
    by (Some false) h = h
    by None h = h

-- false literals change nothing
pub false_keeps : (held zs : List ℤ) (l : ClauseStatus) → IsFalse held zs → look_on held zs l ≡ l
unfolding look_on
false_keeps held [] l h = refl
false_keeps held (z ∷ zs) l h = rw (false_head held z zs h) (false_keeps held zs l (false_tail held z zs h))

pub look_append : (held xs ys : List ℤ) (l : ClauseStatus) → look_on held (xs ++ ys) l ≡ look_on held ys (look_on held xs l)
unfolding look_on
look_append held [] ys l = refl
look_append held (x ∷ xs) ys l = look_append held xs ys (seen_with x (value_in x held) l)

-- a unit clause is seen as such
pub unit_seen : (held clause : List ℤ) (z : ℤ) → IsUnit held clause z → look_on held clause False ≡ Unit z
unfolding look_on
unit_seen held clause z u =
    let first : look_on held (u.front ++ z ∷ u.back) False ≡ look_on held (z ∷ u.back) False = look_append held u.front (z ∷ u.back) False
    ∙ ap (look_on held (z ∷ u.back)) (false_keeps held u.front False u.before) in
    let next : look_on held (z ∷ u.back) False ≡ look_on held u.back (Unit z) = rw u.unassigned refl in
    ap (λ c. look_on held c False) u.split ∙ first ∙ next ∙ false_keeps held u.back (Unit z) u.after

-- what was seen after one unassigned literal
pub record Stays (held zs : List ℤ) (y z : ℤ) : Type 0 where
  pub same : z ≡ y
  pub false_there : IsFalse held zs

single_stays : (held zs : List ℤ) (y z : ℤ) → look_on held zs (Unit y) ≡ Unit z → Stays held zs y z
unfolding look_on
single_stays held [] y z h = record { same = cc; false_there = false_none held }
single_stays held (x ∷ xs) y z h = by (value_in x held) refl (λ e. single_stays held xs y z e) h
  where
    by : (o : Option Bool) → value_in x held ≡ o → (look_on held xs (Unit y) ≡ Unit z → Stays held xs y z)
        → look_on held xs (seen_with x o (Unit y)) ≡ Unit z → Stays held (x ∷ xs) y z
    by (Some true) v k e = let s = settled_stays held xs in cc
    by (Some false) v k e = let s = k e in record { same = s.same; false_there = false_more held x xs v s.false_there }
    by None v k e = let s = settled_stays held xs in cc

single_not : (held zs : List ℤ) (y : ℤ) → look_on held zs (Unit y) ≡ False → ⊥
unfolding look_on
single_not held [] y h = cc
single_not held (x ∷ xs) y h = by (value_in x held) (λ e. single_not held xs y e) h
  where
    by : (o : Option Bool) → (look_on held xs (Unit y) ≡ False → ⊥) → look_on held xs (seen_with x o (Unit y)) ≡ False → ⊥
    by (Some true) k e = let s = settled_stays held xs in cc
    by (Some false) k e = k e
    by None k e = let s = settled_stays held xs in cc

-- a clause seen as false is so
pub false_seen : (held clause : List ℤ) → look_on held clause False ≡ False → IsFalse held clause
unfolding look_on
false_seen held [] h = false_none held
false_seen held (x ∷ xs) h = by (value_in x held) refl (λ e. false_seen held xs e) h
  where
    by : (o : Option Bool) → value_in x held ≡ o → (look_on held xs False ≡ False → IsFalse held xs)
        → look_on held xs (seen_with x o False) ≡ False → IsFalse held (x ∷ xs)
    by (Some true) v k e = let s = settled_stays held xs in cc
    by (Some false) v k e = false_more held x xs v (k e)
    by None v k e = absurd (single_not held xs x e)

unit_more : (held : List ℤ) (x : ℤ) (xs : List ℤ) (z : ℤ) → value_in x held ≡ Some false → IsUnit held xs z → IsUnit held (x ∷ xs) z
unit_more held x xs z v u = record {
  front = x ∷ u.front;
  back = u.back;
  split = ap (λ l. x ∷ l) u.split;
  unassigned = u.unassigned;
  before = false_more held x u.front v u.before;
  after = u.after;
}

-- a clause seen as unit is so
pub single_seen : (held clause : List ℤ) (z : ℤ) → look_on held clause False ≡ Unit z → IsUnit held clause z
unfolding look_on
single_seen held [] z h = cc
single_seen held (x ∷ xs) z h = by (value_in x held) refl (λ e. single_seen held xs z e) h
  where
    by : (o : Option Bool) → value_in x held ≡ o → (look_on held xs False ≡ Unit z → IsUnit held xs z)
        → look_on held xs (seen_with x o False) ≡ Unit z → IsUnit held (x ∷ xs) z
    by (Some true) v k e = let s = settled_stays held xs in cc
    by (Some false) v k e = unit_more held x xs z v (k e)
    by None v k e = let s = single_stays held xs x z e in
        subst (λ (y : ℤ). IsUnit held (x ∷ xs) y) (sym s.same)
        (record { front = []; back = xs; split = refl; unassigned = v; before = false_none held; after = s.false_there })

-- the unit literal is one of the clause
pub unit-in : (P : ℤ → Type 0) (held clause : List ℤ) (z : ℤ) → IsUnit held clause z → All P clause → P z
unit-in P held clause z u all =
    let at : get_or clause (length u.front) z ≡ z = ap (λ l. get_or l (length u.front) z) u.split
    ∙ get_or_at u.front z u.back z (length u.front) refl in
    let lt : length u.front < length clause = omega (arith, ap length u.split, length-append u.front (z ∷ u.back)) in
    subst P at (all (length u.front) z lt)
