-- Lists that grow at their end, and their elements.
use Rattle.std.proofs.Common.{ℕ, zero, suc, ◌+◌, ◌<◌, ◌≡◌, ◌⊎◌, refl, sym, ap, arith, List, [], ◌∷◌, ◌++◌, length, get_or, Some, slice_get, inl, inr}
use Rattle.std.proofs.lemmas.List.{get_or_append_left}

-- a place in range has an element
pub element_at : {X : Type 0} → (xs : List X) (i : ℕ) → i < length xs → (x : X) × (slice_get xs i ≡ Some x)
element_at [] i within = absurd (omega arith)
element_at (x ∷ xs) zero within = (x, refl)
element_at (x ∷ xs) (suc i) within = element_at xs i (omega arith)

pub some_back : {X : Type 0} (a b : X) → Some a ≡ Some b → a ≡ b
some_back a b e = cc

-- an element of a list with one more at its end: it stood before, or is the added one
pub element_cases : {X : Type 0} → (xs : List X) (y : X) (i : ℕ) (x : X) → slice_get (xs ++ y ∷ []) i ≡ Some x
    → (slice_get xs i ≡ Some x) ⊎ ((i ≡ length xs) × (x ≡ y))
element_cases [] y zero x at = inr (refl, sym (some_back y x at))
element_cases [] y (suc i) x at = absurd (cc at)
element_cases (z ∷ xs) y zero x at = inl at
element_cases (z ∷ xs) y (suc i) x at = elim (element_cases xs y i x at) [
  | inl before ↦ inl before
  | inr last ↦ inr (ap suc last.0, last.1)
]

pub length_push : {X : Type 0} → (xs : List X) (y : X) → length (xs ++ y ∷ []) ≡ length xs + 1
length_push [] y = refl
length_push (x ∷ xs) y = omega (arith, length_push xs y)

-- a number that stood before the added one
pub number_before : (xs : List ℕ) (y i : ℕ) → i < length xs → get_or (xs ++ y ∷ []) i 0 ≡ get_or xs i 0
number_before xs y i lt = get_or_append_left xs (y ∷ []) 0 i lt

-- the added number
pub number_last : (xs : List ℕ) (y i : ℕ) → i ≡ length xs → get_or (xs ++ y ∷ []) i 0 ≡ y
number_last [] y zero e = refl
number_last [] y (suc i) e = absurd (omega arith)
number_last (x ∷ xs) y zero e = absurd (omega arith)
number_last (x ∷ xs) y (suc i) e = number_last xs y i (omega arith)
