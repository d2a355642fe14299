-- When the clauses of each shape are true.
use Rattle.std.proofs.Common.{◌≡◌, ℕ, ℤ, zero, suc, ◌+◌, ◌-◌, ◌<◌, inl, inr, Bool, true, false, not, ◌||◌, List, [], ◌∷◌, refl, sym, ap, subst, ◌∙◌, arith}
use Rattle.std.specs.Prelude.{◌==◌}
use Rattle.std.proofs.lemmas.List.Elements.{All-nil, All-cons, All-head}
use Rattle.std.proofs.lemmas.Bool.{cases_order, eqb-true, eq-eqb, ne_eqb, not-false, false_from_ne_true}
use Rattle.clause_base.specs.TruthValues.{lit_holds, clause_holds, AllHold}
use Rattle.placement_clauses.specs.Number.{plus, minus}
use Rattle.placement_clauses.specs.Shape.{one, plus_at, any_of, not_both, not_with_later, no_two, follows, same, follows_where, same_where, not_both_unless, apart_unless}
use Rattle.placement_clauses.proofs.UptoLemmas.{All-upto, upto-All, any-upto, upto-any}

-- a negated literal is true where its variable is false
pub minus-holds : (a : ℕ → Bool) (v : ℕ) → 0 < v → lit_holds a (minus v) ≡ not (a v)
minus-holds a zero h = absurd (omega arith)
minus-holds a (suc v) h = refl

-- it is false where its variable is true
pub minus-false : (a : ℕ → Bool) (v : ℕ) → 0 < v → a v ≡ true → lit_holds a (minus v) ≡ false
minus-false a v h e = minus-holds a v h ∙ ap not e

-- it is true where its variable is false
pub minus-true : (a : ℕ → Bool) (v : ℕ) → 0 < v → a v ≡ false → lit_holds a (minus v) ≡ true
minus-true a v h e = minus-holds a v h ∙ ap not e

-- a negated literal and its variable are not both true
pub from_minus : (a : ℕ → Bool) (v : ℕ) → 0 < v → lit_holds a (minus v) ≡ true → a v ≡ true → ⊥
from_minus a v h e t = let f : false ≡ true = sym (minus-false a v h t) ∙ e in cc

-- one clause is true
pub one-holds : (a : ℕ → Bool) (c : List ℤ) → AllHold a (one c) → clause_holds a c ≡ true
one-holds a c h = All-head (λ c. clause_holds a c ≡ true) c [] h

-- and the other way round
pub holds-one : (a : ℕ → Bool) (c : List ℤ) → clause_holds a c ≡ true → AllHold a (one c)
holds-one a c h = All-cons (λ c. clause_holds a c ≡ true) c [] h (All-nil (λ c. clause_holds a c ≡ true))

-- one value of which some is true
pub one_of : (x : Bool) → (x || false) ≡ true → x ≡ true
one_of true h = refl
one_of false h = h

-- of two values one is true, so the second where the first is not
pub two_of : (x y : Bool) → (x || (y || false)) ≡ true → x ≡ false → y ≡ true
two_of true y h e = cc
two_of false y h e = one_of y h

-- and the other way round
pub of_two : (x y : Bool) → (x ≡ false → y ≡ true) → (x || (y || false)) ≡ true
of_two true y h = refl
of_two false y h = ap (λ y. y || false) (h refl)

-- the same of three values
three_of : (x y z : Bool) → (x || (y || (z || false))) ≡ true → x ≡ false → y ≡ false → z ≡ true
three_of true y z h e f = cc
three_of false y z h e f = two_of y z h f

-- and the other way round
of_three : (x y z : Bool) → (x ≡ false → y ≡ false → z ≡ true) → (x || (y || (z || false))) ≡ true
of_three true y z h = refl
of_three false y z h = of_two y z (h refl)

-- a clause of one, two, three literals
pub unit-holds : (a : ℕ → Bool) (p : ℤ) → AllHold a (one (p ∷ [])) → lit_holds a p ≡ true
unit-holds a p h = one_of (lit_holds a p) (one-holds a (p ∷ []) h)

-- and the other way round
pub holds-unit : (a : ℕ → Bool) (p : ℤ) → lit_holds a p ≡ true → AllHold a (one (p ∷ []))
holds-unit a p h = holds-one a (p ∷ []) (ap (λ x. x || false) h)

-- a clause of two literals: the second is true where the first is false
pub two-hold : (a : ℕ → Bool) (p q : ℤ) → AllHold a (one (p ∷ q ∷ [])) → lit_holds a p ≡ false → lit_holds a q ≡ true
two-hold a p q h = two_of (lit_holds a p) (lit_holds a q) (one-holds a (p ∷ q ∷ []) h)

-- and the other way round
pub hold-two : (a : ℕ → Bool) (p q : ℤ) → (lit_holds a p ≡ false → lit_holds a q ≡ true) → AllHold a (one (p ∷ q ∷ []))
hold-two a p q h = holds-one a (p ∷ q ∷ []) (of_two (lit_holds a p) (lit_holds a q) h)

-- a clause of three literals: the third is true where the first two are false
pub three-hold : (a : ℕ → Bool) (p q r : ℤ) → AllHold a (one (p ∷ q ∷ r ∷ [])) → lit_holds a p ≡ false → lit_holds a q ≡ false
    → lit_holds a r ≡ true
three-hold a p q r h = three_of (lit_holds a p) (lit_holds a q) (lit_holds a r) (one-holds a (p ∷ q ∷ r ∷ []) h)

-- and the other way round
pub hold-three : (a : ℕ → Bool) (p q r : ℤ) → (lit_holds a p ≡ false → lit_holds a q ≡ false → lit_holds a r ≡ true)
    → AllHold a (one (p ∷ q ∷ r ∷ []))
hold-three a p q r h = holds-one a (p ∷ q ∷ r ∷ []) (of_three (lit_holds a p) (lit_holds a q) (lit_holds a r) h)

-- a negated literal is false, so its variable is true
pub from_not : (a : ℕ → Bool) (v : ℕ) → 0 < v → lit_holds a (minus v) ≡ false → a v ≡ true
from_not a v h e = not-false (a v) (sym (minus-holds a v h) ∙ e)

-- a variable that cannot be true makes its negated literal true
pub to_minus : (a : ℕ → Bool) (v : ℕ) → 0 < v → (a v ≡ true → ⊥) → lit_holds a (minus v) ≡ true
to_minus a v h n = minus-holds a v h ∙ flip (a v) n
  where
    flip : (b : Bool) → (b ≡ true → ⊥) → not b ≡ true
    flip true n = absurd (n refl)
    flip false n = refl

-- at least one
pub any_of-holds : (a : ℕ → Bool) (n v : ℕ) → AllHold a (one (any_of n v)) → (k : ℕ) × (k < n) × (a (v + k) ≡ true)
any_of-holds a n v h = let r = upto-any (lit_holds a) n (plus_at v) (one-holds a (any_of n v) h) in (r.0, r.1, one_of (a (v + r.0)) r.2)

-- and the other way round
pub holds-any_of : (a : ℕ → Bool) (n v k : ℕ) → k < n → a (v + k) ≡ true → AllHold a (one (any_of n v))
holds-any_of a n v k lt e = holds-one a (any_of n v) (any-upto (lit_holds a) n (plus_at v) k lt (ap (λ x. x || false) e))

-- at most one
pub no_two-holds : (a : ℕ → Bool) (n v : ℕ) → 0 < v → AllHold a (no_two n v) → (r s : ℕ) → r < s → s < n → a (v + r) ≡ true
    → a (v + s) ≡ true → ⊥
no_two-holds a n v above h r s lt within e f =
    let row : AllHold a (not_with_later n v r) = upto-All (λ c. clause_holds a c ≡ true) n (not_with_later n v) h r (omega arith) in
    let same : r + 1 + (s - (r + 1)) ≡ s = omega arith in
    let at : AllHold a (not_both v r (r + 1 + (s - (r + 1)))) =
    upto-All (λ c. clause_holds a c ≡ true) (n - (r + 1)) (λ k. not_both v r (r + 1 + k)) row (s - (r + 1)) (omega arith) in
    let here : AllHold a (not_both v r s) = subst (λ m. AllHold a (not_both v r m)) same at in
    from_minus a (v + s) (omega arith) (two-hold a (minus (v + r)) (minus (v + s)) here (minus-false a (v + r) (omega arith) e)) f

-- and the other way round
pub holds-no_two : (a : ℕ → Bool) (n v : ℕ) → 0 < v → ((r s : ℕ) → r < s → s < n → a (v + r) ≡ true → a (v + s) ≡ true → ⊥)
    → AllHold a (no_two n v)
holds-no_two a n v above h =
    All-upto (λ c. clause_holds a c ≡ true) n (not_with_later n v) (λ r r_lt.
    All-upto (λ c. clause_holds a c ≡ true) (n - (r + 1)) (λ k. not_both v r (r + 1 + k)) (λ k k_lt.
    hold-two a (minus (v + r)) (minus (v + (r + 1 + k))) (λ (e : lit_holds a (minus (v + r)) ≡ false).
    to_minus a (v + (r + 1 + k)) (omega arith)
    (λ (f : a (v + (r + 1 + k)) ≡ true). h r (r + 1 + k) (omega arith) (omega arith) (from_not a (v + r) (omega arith) e) f))))

-- twins are not both true where the literal is false
pub apart-holds : (a : ℕ → Bool) (z : ℤ) (n v w : ℕ) → 0 < v → 0 < w → AllHold a (apart_unless z n v w) → lit_holds a z ≡ false → (k : ℕ)
    → k < n → a (v + k) ≡ true → a (w + k) ≡ true → ⊥
apart-holds a z n v w above above_w h e k lt f g =
    let here : AllHold a (not_both_unless z v w k) = upto-All (λ c. clause_holds a c ≡ true) n (not_both_unless z v w) h k lt in
    from_minus a (w + k) (omega arith) (three-hold a z (minus (v + k)) (minus (w + k)) here e (minus-false a (v + k) (omega arith) f)) g

-- and the other way round
pub holds-apart : (a : ℕ → Bool) (z : ℤ) (n v w : ℕ) → 0 < v → 0 < w
    → (lit_holds a z ≡ false → (k : ℕ) → k < n → a (v + k) ≡ true → a (w + k) ≡ true → ⊥) → AllHold a (apart_unless z n v w)
holds-apart a z n v w above above_w h =
    All-upto (λ c. clause_holds a c ≡ true) n (not_both_unless z v w) (λ k lt.
    hold-three a z (minus (v + k)) (minus (w + k)) (λ (e : lit_holds a z ≡ false) (f : lit_holds a (minus (v + k)) ≡ false).
    to_minus a (w + k) (omega arith) (λ (g : a (w + k) ≡ true). h e k lt (from_not a (v + k) (omega arith) f) g)))

-- a twin is true where the condition and its variable are
pub same_where-holds : (a : ℕ → Bool) (g n v w : ℕ) → 0 < g → 0 < v → AllHold a (same_where g n v w) → a g ≡ true → (k : ℕ) → k < n
    → a (v + k) ≡ true → a (w + k) ≡ true
same_where-holds a g n v w above above_v h e k lt f =
    let here : AllHold a (follows_where g v w k) = upto-All (λ c. clause_holds a c ≡ true) n (follows_where g v w) h k lt in
    three-hold a (minus g) (minus (v + k)) (plus (w + k)) here (minus-false a g above e) (minus-false a (v + k) (omega arith) f)

-- and the other way round
pub holds-same_where : (a : ℕ → Bool) (g n v w : ℕ) → 0 < g → 0 < v → (a g ≡ true → (k : ℕ) → k < n → a (v + k) ≡ true → a (w + k) ≡ true)
    → AllHold a (same_where g n v w)
holds-same_where a g n v w above above_v h =
    All-upto (λ c. clause_holds a c ≡ true) n (follows_where g v w) (λ k lt.
    hold-three a (minus g) (minus (v + k)) (plus (w + k))
    (λ (e : lit_holds a (minus g) ≡ false) (f : lit_holds a (minus (v + k)) ≡ false).
    h (from_not a g above e) k lt (from_not a (v + k) (omega arith) f)))

-- a twin is true where its variable is
pub same-holds : (a : ℕ → Bool) (n v w : ℕ) → 0 < v → AllHold a (same n v w) → (k : ℕ) → k < n → a (v + k) ≡ true → a (w + k) ≡ true
same-holds a n v w above h k lt f =
    let here : AllHold a (follows v w k) = upto-All (λ c. clause_holds a c ≡ true) n (follows v w) h k lt in
    two-hold a (minus (v + k)) (plus (w + k)) here (minus-false a (v + k) (omega arith) f)

-- and the other way round
pub holds-same : (a : ℕ → Bool) (n v w : ℕ) → 0 < v → ((k : ℕ) → k < n → a (v + k) ≡ true → a (w + k) ≡ true) → AllHold a (same n v w)
holds-same a n v w above h =
    All-upto (λ c. clause_holds a c ≡ true) n (follows v w) (λ k lt.
    hold-two a (minus (v + k)) (plus (w + k)) (λ (f : lit_holds a (minus (v + k)) ≡ false). h k lt (from_not a (v + k) (omega arith) f)))

-- of the n variables from v on the x-th alone is true
pub record IsHot (a : ℕ → Bool) (n v x : ℕ) : Type 0 where
  pub within : x < n
  pub above : 0 < v
  pub tells : (k : ℕ) → k < n → a (v + k) ≡ (x == k)

-- the variable at the place is true
pub hot-here : (a : ℕ → Bool) (n v x k : ℕ) → IsHot a n v x → x ≡ k → a (v + k) ≡ true
hot-here a n v x k h e = let lt : k < n = omega (arith, h.within) in h.tells k lt ∙ eq-eqb x k e

-- a variable that is true is the one at the place
pub hot-is : (a : ℕ → Bool) (n v x k : ℕ) → IsHot a n v x → k < n → a (v + k) ≡ true → x ≡ k
hot-is a n v x k h lt e = eqb-true x k (sym (h.tells k lt) ∙ e)

-- exactly one, by its clauses
pub hot-from : (a : ℕ → Bool) (n v : ℕ) → 0 < v → AllHold a (one (any_of n v)) → AllHold a (no_two n v) → (x : ℕ) × IsHot a n v x
hot-from a n v above some most =
    let r = any_of-holds a n v some in (
      r.0,
      record {
        within = r.1;
        above = above;
        tells = λ k lt. (elim (cases_order r.0 k) as (λ _. a (v + k) ≡ (r.0 == k)) [
          | inl e ↦ ap (λ m. a (v + m)) (sym e) ∙ r.2 ∙ sym (eq-eqb r.0 k e)
          | inr (inl below) ↦ false_from_ne_true (a (v + k))
              (λ (t : a (v + k) ≡ true). no_two-holds a n v above most r.0 k below lt r.2 t)
              ∙ sym (ne_eqb r.0 k (λ (e : r.0 ≡ k). absurd (omega arith)))
          | inr (inr after) ↦ false_from_ne_true (a (v + k))
              (λ (t : a (v + k) ≡ true). no_two-holds a n v above most k r.0 after r.1 t r.2)
              ∙ sym (ne_eqb r.0 k (λ (e : r.0 ≡ k). absurd (omega arith)))
        ]);
      },
    )

-- so some variable is true
pub hot-any : (a : ℕ → Bool) (n v x : ℕ) → IsHot a n v x → AllHold a (one (any_of n v))
hot-any a n v x h = holds-any_of a n v x h.within (hot-here a n v x x h refl)

-- and no two are
pub hot-no_two : (a : ℕ → Bool) (n v x : ℕ) → IsHot a n v x → AllHold a (no_two n v)
hot-no_two a n v x h = holds-no_two a n v h.above (λ r s lt within e f.
    let first : x ≡ r = hot-is a n v x r h (omega arith) e in
    let second : x ≡ s = hot-is a n v x s h within f in
    absurd (omega arith))
