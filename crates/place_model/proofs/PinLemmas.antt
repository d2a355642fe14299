-- Pins and the cells that they give.
use Rattle.std.proofs.Common.{ℕ, zero, suc, ◌≡◌, ◌+◌, ◌<◌, ◌≤◌, ◌⊎◌, List, [], ◌∷◌, ◌++◌, length, Some, slice_get, refl, sym, ap, ◌∙◌, subst, inl, inr, arith}
use Rattle.std.proofs.lemmas.Bool.{cases_lt}
use Rattle.std.proofs.lemmas.Option.{slice_get_within}
use Rattle.mcu_jumps.specs.Position.{Position}
use Rattle.flow_graph.specs.declared.pinning.Pin.{Pin}
use Rattle.flow_graph.specs.Graph.{Graph}
use Rattle.flow_graph.specs.Valid.{IsProgram}
use Rattle.place_model.specs.Legal.{KeepsPins}
use Rattle.place_model.specs.Pinned.{IsPinnedTo, ArePinnedCells}
use Rattle.place_model.proofs.JumpLemmas.{cell_there}

-- the cells of the pins keep the pins
pub KeepsPins-from_pinned : (g : Graph) (place : List Position) → IsProgram g.rows g.start g.pins g.instrs → ArePinnedCells g place
    → KeepsPins g.pins place
KeepsPins-from_pinned g place valid pinned k pin at =
    let in_range : pin.label < length g.instrs = valid.pins_in_range k pin at in
    let count : length place ≡ length g.instrs = pinned.cell_for_each_label in
    let there : (x : Position) × (slice_get place pin.label ≡ Some x) = cell_there place pin.label (omega arith) in
    let given = pinned.pinned pin.label there.0 there.1 in
    let twin : Pin = record { label = pin.label; cell = there.0 } in
    let same : given.0 ≡ k = valid.pinned_once given.0 k twin pin given.1 at refl in
    let one : Some twin ≡ Some pin = sym given.1 ∙ ap (slice_get g.pins) same ∙ at in
    let cells : there.0 ≡ pin.cell = cc in
    there.1 ∙ ap Some cells

-- an element stays where it is when one more is added
slice_get_before : {X : Type 0} → (xs : List X) (y : X) (i : ℕ) (x : X) → slice_get xs i ≡ Some x → slice_get (xs ++ y ∷ []) i ≡ Some x
slice_get_before [] y i x at = absurd (cc at)
slice_get_before (z ∷ xs) y zero x at = at
slice_get_before (z ∷ xs) y (suc i) x at = slice_get_before xs y i x at

-- the added element stands last
slice_get_last : {X : Type 0} → (xs : List X) (y : X) (i : ℕ) → i ≡ length xs → slice_get (xs ++ y ∷ []) i ≡ Some y
slice_get_last [] y zero count = refl
slice_get_last [] y (suc i) count = absurd (omega arith)
slice_get_last (z ∷ xs) y zero count = absurd (omega arith)
slice_get_last (z ∷ xs) y (suc i) count = slice_get_last xs y i (omega arith)

-- the first labels, as many as count, have the cells of their pins
abbrev pub ArePinnedBelow : List Pin → List Position → ℕ → Type 0
ArePinnedBelow pins cells count = (label : ℕ) → label < count
    → (cell : Position) × (slice_get cells label ≡ Some cell) × IsPinnedTo pins label cell

-- one more label has the cell of its pin
pub ArePinnedBelow-push : (pins : List Pin) (cells : List Position) (count : ℕ) (cell : Position) → count ≡ length cells
    → ArePinnedBelow pins cells count → IsPinnedTo pins count cell → ArePinnedBelow pins (cells ++ cell ∷ []) (count + 1)
ArePinnedBelow-push pins cells count cell all below here label within = go (cases_lt label count)
  where
    go : (label < count) ⊎ (count ≤ label) → (x : Position) × (slice_get (cells ++ cell ∷ []) label ≡ Some x) × IsPinnedTo pins label x
    go (inl before) = let found = below label before in (found.0, slice_get_before cells cell label found.0 found.1, found.2)
    go (inr after) =
        let last : count ≡ label = omega arith in
        let P : ℕ → Type 0 = λ n. IsPinnedTo pins n cell in
        (cell, slice_get_last cells cell label (omega arith), subst P last here)

-- where all labels have the cells of their pins, these are the pinned cells
pub ArePinnedCells-from_below : (g : Graph) (place : List Position) → length place ≡ length g.instrs
    → ArePinnedBelow g.pins place (length place) → ArePinnedCells g place
ArePinnedCells-from_below g place count below = record { cell_for_each_label = count; pinned = pinned }
  where
    pinned : (label : ℕ) (cell : Position) → slice_get place label ≡ Some cell → IsPinnedTo g.pins label cell
    pinned label cell at =
        let found = below label (slice_get_within place label cell at) in
        let one : slice_get place label ≡ Some found.0 = found.1 in
        let same : found.0 ≡ cell = cc in
        let P : Position → Type 0 = λ x. IsPinnedTo g.pins label x in
        subst P same found.2
