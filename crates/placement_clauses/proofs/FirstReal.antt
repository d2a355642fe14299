-- The first outcome with a label.
use Rattle.std.proofs.Common.{◌≡◌, ℕ, zero, suc, ◌+◌, ◌<◌, true, false, length, List, [], ◌∷◌, Option, Some, None, refl, ap, ◌∙◌, arith}
use Rattle.std.specs.Prelude.{slice_get, is_some}
use Rattle.std.specs.List.{list_any}
use Rattle.placement_clauses.specs.FirstLabel.{first_label, first_real}

-- the first label is the target of the first real outcome
pub first-there : (ts : List (Option ℕ)) → list_any is_some ts ≡ true → slice_get ts (first_real ts) ≡ Some (Some (first_label ts))
first-there [] h = cc
first-there (Some y ∷ ts) h = refl
first-there (None ∷ ts) h = let e : first_real ts + 1 ≡ suc (first_real ts) = omega arith in
    ap (slice_get (None ∷ ts)) e ∙ first-there ts h

-- an outcome with a label, before which there are only traps, is the first one
pub first-is : (ts : List (Option ℕ)) (i y : ℕ) → ((k : ℕ) → k < i → slice_get ts k ≡ Some None) → slice_get ts i ≡ Some (Some y)
    → (first_real ts ≡ i) × (first_label ts ≡ y)
first-is [] i y h e = cc
first-is (Some z ∷ ts) zero y h e = (refl, cc)
first-is (Some z ∷ ts) (suc i) y h e = let none : Some (Some z) ≡ Some None = h 0 (omega arith) in cc
first-is (None ∷ ts) zero y h e = cc
first-is (None ∷ ts) (suc i) y h e =
    let r = first-is ts i y (λ k lt. h (suc k) (omega arith)) e in
    (omega (arith, r.0), r.1)

-- where there are only traps, no target is a label
pub all-traps : (ts : List (Option ℕ)) → ((k : ℕ) → k < length ts → slice_get ts k ≡ Some None) → list_any is_some ts ≡ false
all-traps [] h = refl
all-traps (Some z ∷ ts) h = let none : Some (Some z) ≡ Some None = h 0 (omega arith) in cc
all-traps (None ∷ ts) h = all-traps ts (λ k lt. h (suc k) (omega arith))

-- what is no label is the trap
pub is-None : (t : Option ℕ) → ((y : ℕ) → t ≡ Some y → ⊥) → t ≡ None
is-None None h = refl
is-None (Some y) h = absurd (h y refl)
