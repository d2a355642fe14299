-- Elements by their places, where one is added at the end or taken out.

use Rattle.std.proofs.Common.{◌≡◌, ◌≢◌, ℕ, ◌+◌, ◌-◌, ◌<◌, ◌≤◌, List, [], ◌∷◌, ◌++◌, length, get_or, set, take, Some, refl, sym, ap, ◌∙◌, ⊎_elim, arith}
use Rattle.std.specs.Prelude.{slice_get}
use Rattle.std.specs.List.{swap_remove}
use Rattle.std.proofs.lemmas.Bool.{cases_lt}
use Rattle.std.proofs.lemmas.List.{length-set, length-take-le, length_push, get_or-set_same, get_or-set_other, get_or-take, get_or_push}
use Rattle.std.proofs.lemmas.Option.{slice_get-get_or, slice_get_within, get_or_from_slice_get}
use Rattle.clause_base.proofs.ListLemmas.{get_set_cases}

-- the last of a list with one more
pub get_last : {X : Type 0} (xs : List X) (y : X) → slice_get (xs ++ y ∷ []) (length xs) ≡ Some y
get_last xs y =
    let within : length xs < length (xs ++ y ∷ []) = omega (arith, length_push xs y) in
    slice_get-get_or (xs ++ y ∷ []) (length xs) y within ∙ ap Some (get_or_push xs y y (length xs) refl)

-- one element fewer
pub length_swapped : {X : Type 0} (xs : List X) (i : ℕ) (d : X) → i < length xs → length (swap_remove xs i d) + 1 ≡ length xs
length_swapped xs i d lt =
    let ys = set xs i (get_or xs (length xs - 1) d) in
    let le : length xs - 1 ≤ length ys = omega (arith, length-set xs i (get_or xs (length xs - 1) d)) in
    let sized : length (take (length xs - 1) ys) ≡ length xs - 1 = length-take-le (length xs - 1) ys le in
    omega (arith, sized)

-- the other places but the last keep their elements
pub get_swapped : {X : Type 0} (xs : List X) (i k : ℕ) (d x : X) → i < length xs → k ≢ i → k + 1 < length xs → slice_get xs k ≡ Some x
    → slice_get (swap_remove xs i d) k ≡ Some x
get_swapped xs i k d x lt ne before there =
    let last = get_or xs (length xs - 1) d in
    let below : k < length xs - 1 = omega arith in
    let within : k < length (swap_remove xs i d) = omega (arith, length_swapped xs i d lt) in
    slice_get-get_or (swap_remove xs i d) k x within
    ∙ ap Some (get_or-take (length xs - 1) (set xs i last) k x below ∙ get_or-set_other xs i k last x ne
    ∙ get_or_from_slice_get xs k x x there)

-- the last comes to the place of the one that is taken out
pub get_swapped_last : {X : Type 0} (xs : List X) (i : ℕ) (d x : X) → i + 1 < length xs → slice_get xs (length xs - 1) ≡ Some x
    → slice_get (swap_remove xs i d) i ≡ Some x
get_swapped_last xs i d x before there =
    let last = get_or xs (length xs - 1) d in
    let lt : i < length xs = omega arith in
    let below : i < length xs - 1 = omega arith in
    let within : i < length (swap_remove xs i d) = omega (arith, length_swapped xs i d lt) in
    slice_get-get_or (swap_remove xs i d) i x within
    ∙ ap Some (get_or-take (length xs - 1) (set xs i last) i x below ∙ get_or-set_same xs i last x lt
    ∙ get_or_from_slice_get xs (length xs - 1) x d there)

-- what is left was there
pub get_left_there : {X : Type 0} (xs : List X) (i k : ℕ) (d x : X) → i < length xs → slice_get (swap_remove xs i d) k ≡ Some x
    → (j : ℕ) × (slice_get xs j ≡ Some x)
get_left_there xs i k d x lt there =
    let last = get_or xs (length xs - 1) d in
    let within : k < length (swap_remove xs i d) = slice_get_within (swap_remove xs i d) k x there in
    let below : k < length xs - 1 = omega (arith, length_swapped xs i d lt) in
    let is : get_or (set xs i last) k x ≡ x = sym (get_or-take (length xs - 1) (set xs i last) k x below)
    ∙ get_or_from_slice_get (swap_remove xs i d) k x x there in
    let inside : k < length (set xs i last) = omega (arith, length-set xs i last) in
    let there_set : slice_get (set xs i last) k ≡ Some x = slice_get-get_or (set xs i last) k x inside ∙ ap Some is in
    ⊎_elim
    (λ (new : (k ≡ i) × (last ≡ x)). let end : length xs - 1 < length xs = omega arith in
    (length xs - 1, slice_get-get_or xs (length xs - 1) d end ∙ ap Some new.1))
    (λ (old : slice_get xs k ≡ Some x). (k, old))
    (get_set_cases xs i k last x there_set)

-- every other element stays, at some place
pub get_kept : {X : Type 0} (xs : List X) (i k : ℕ) (d x : X) → i < length xs → k ≢ i → slice_get xs k ≡ Some x
    → (j : ℕ) × (slice_get (swap_remove xs i d) j ≡ Some x)
get_kept xs i k d x lt ne there =
    let within : k < length xs = slice_get_within xs k x there in
    ⊎_elim
    (λ (before : k + 1 < length xs). (k, get_swapped xs i k d x lt ne before there))
    (λ (after : length xs ≤ k + 1).
    let at : k ≡ length xs - 1 = omega arith in
    let hole : i + 1 < length xs = omega arith in
    (i, get_swapped_last xs i d x hole (ap (slice_get xs) (sym at) ∙ there)))
    (cases_lt (k + 1) (length xs))
