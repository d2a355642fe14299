-- What is known after a look at the front of a clause.

use Rattle.std.proofs.Common.{◌≡◌, ℕ, ℤ, ◌+◌, ◌<◌, false, List, [], ◌∷◌, ◌++◌, length, take, get_or, Option, Some, None, MatchOption, refl, sym, ap, subst, ◌∙◌, arith}
use Rattle.std.specs.Prelude.{All}
use Rattle.std.proofs.lemmas.List.{append_assoc, length-append, length-take-le, get_or_at, get_or-take}
use Rattle.std.proofs.lemmas.List.Elements.{All-nil, All-push}
use Rattle.std.proofs.lemmas.Option.{slice_get-get_or, same_Some}
use Rattle.clause_base.specs.Truth.{value_in, IsFalse, IsUnit, HasTwo}

-- the literals looked at are false, but for the one that is remembered
abbrev pub IsSoFar : List ℤ → List ℤ → Option ℤ → Type 0
IsSoFar held seen unassigned = MatchOption unassigned (IsFalse held seen) (IsUnit held seen)

-- one more false literal
pub more_false : (held : List ℤ) (seen : List ℤ) (x : ℤ) (unassigned : Option ℤ) → IsSoFar held seen unassigned
    → value_in x held ≡ Some false → IsSoFar held (seen ++ x ∷ []) unassigned
more_false held seen x None h v = All-push (λ z. value_in z held ≡ Some false) seen x h v
more_false held seen x (Some z) h v = record {
  front = h.front;
  back = h.back ++ x ∷ [];
  split = ap (λ l. l ++ x ∷ []) h.split ∙ append_assoc h.front (z ∷ h.back) (x ∷ []);
  unassigned = h.unassigned;
  before = h.before;
  after = All-push (λ y. value_in y held ≡ Some false) h.back x h.after v;
}

-- the first unassigned literal
pub more_unassigned : (held : List ℤ) (seen : List ℤ) (x : ℤ) → IsFalse held seen → value_in x held ≡ None
    → IsUnit held (seen ++ x ∷ []) x
more_unassigned held seen x h v =
    record { front = seen; back = []; split = refl; unassigned = v; before = h; after = All-nil (λ z. value_in z held ≡ Some false) }

-- the second unassigned literal
unfoldable two-unassigned : (held : List ℤ) (clause : List ℤ) (i : ℕ) (x z : ℤ) → i < length clause → get_or clause i x ≡ x
    → value_in x held ≡ None → IsUnit held (take i clause) z → HasTwo held clause
two-unassigned held clause i x z lt is v u =
    let len : length (take i clause) ≡ i = length-take-le i clause (omega arith) in
    let sum : length (take i clause) ≡ length u.front + length (z ∷ u.back) = ap length u.split ∙ length-append u.front (z ∷ u.back) in
    let below : length u.front < i = omega arith in
    let at : get_or (take i clause) (length u.front) z ≡ z = ap (λ l. get_or l (length u.front) z) u.split
    ∙ get_or_at u.front z u.back z (length u.front) refl in
    let there : get_or clause (length u.front) z ≡ z = sym (get_or-take i clause (length u.front) z below) ∙ at in
    record {
      first = length u.front;
      second = i;
      lit = z;
      other = x;
      apart = below;
      there = slice_get-get_or clause (length u.front) z (omega arith) ∙ ap Some there;
      next = slice_get-get_or clause i x lt ∙ ap Some is;
      unassigned = u.unassigned;
      too = v;
    }

-- and these two
pub two_told : (held : List ℤ) (clause : List ℤ) (i : ℕ) (x z : ℤ) → i < length clause → get_or clause i x ≡ x → value_in x held ≡ None
    → IsUnit held (take i clause) z → (t : HasTwo held clause) × (t.lit ≡ z) × (t.other ≡ x)
unfolding two-unassigned
two_told held clause i x z lt is v u = (two-unassigned held clause i x z lt is v u, refl, refl)

-- where none is remembered all are false
pub none_unassigned : (held : List ℤ) (seen : List ℤ) (unassigned : Option ℤ) → unassigned ≡ None → IsSoFar held seen unassigned
    → IsFalse held seen
none_unassigned held seen None none h = h
none_unassigned held seen (Some z) none h = cc

-- the one that is remembered
pub some_remembered : (held : List ℤ) (seen : List ℤ) (unassigned : Option ℤ) (z : ℤ) → unassigned ≡ Some z
    → IsSoFar held seen unassigned → IsUnit held seen z
some_remembered held seen None z some h = cc
some_remembered held seen (Some y) z some h = let same : y ≡ z = same_Some y z some in subst (λ (x : ℤ). IsUnit held seen x) same h

-- what all literals of a clause have, its unassigned one has
pub unit_has : (P : ℤ → Type 0) (held : List ℤ) (clause : List ℤ) (z : ℤ) → IsUnit held clause z → All P clause → P z
unit_has P held clause z u all =
    let at : get_or clause (length u.front) z ≡ z = ap (λ l. get_or l (length u.front) z) u.split
    ∙ get_or_at u.front z u.back z (length u.front) refl in
    let lt : length u.front < length clause = omega (arith, ap length u.split, length-append u.front (z ∷ u.back)) in
    subst P at (all (length u.front) z lt)
