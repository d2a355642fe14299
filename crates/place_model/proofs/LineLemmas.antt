-- How the map text grows by a line.
use Rattle.std.proofs.Common.{ℕ, ◌≡◌, ◌+◌, List, [], ◌∷◌, ◌++◌, length, drop, Some, slice_get, refl, ap, ◌∙◌, arith, add-one, suc}
use Rattle.std.proofs.Math.Seq.{drop-cons}
use Rattle.std.proofs.lemmas.List.{drop_all}
use Rattle.std.proofs.lemmas.Option.{get_or_from_slice_get, slice_get_within}
use Rattle.mcu_jumps.specs.Position.{Position}
use Rattle.mcu_jumps.specs.JumpWord.{JumpWord}
use Rattle.flow_graph.specs.declared.instructions.Instr.{Instr}
use Rattle.place_model.specs.Legal.{IsJumpOf}
use Rattle.place_model.specs.MapText.{AreLines, map_line}

-- the rest of a list begins with the element at its place
drop_at : {X : Type 0} → (xs : List X) (i : ℕ) (x : X) → slice_get xs i ≡ Some x → drop i xs ≡ x ∷ drop (i + 1) xs
drop_at xs i x h = rw add-one
    (drop-cons xs i x (slice_get_within xs i x h) ∙ ap (λ y. y ∷ drop (suc i) xs) (get_or_from_slice_get xs i x x h))

-- a label's line and the lines of the later labels are the lines from that label on
pub AreLines-step : (place : List Position) (instrs : List Instr) (cells : List Position) (i : ℕ) (instr : Instr) (cell : Position)
    (jump : JumpWord) (tail : List ℕ) → slice_get instrs i ≡ Some instr → slice_get cells i ≡ Some cell → IsJumpOf place instr cell jump
    → AreLines place (drop (i + 1) instrs) (drop (i + 1) cells) tail
    → AreLines place (drop i instrs) (drop i cells) (map_line instr.name cell jump ++ tail)
AreLines-step place instrs cells i instr cell jump tail at_label at_cell is_jump more =
    rw (drop_at instrs i instr at_label, drop_at cells i cell at_cell) (jump, tail, is_jump, refl, more)

-- past the last label there is no line
pub AreLines-end : (place : List Position) (instrs : List Instr) (cells : List Position) (n : ℕ) → n ≡ length instrs → n ≡ length cells
    → AreLines place (drop n instrs) (drop n cells) []
AreLines-end place instrs cells n all_instrs all_cells =
    let no_instr : drop n instrs ≡ [] = drop_all n instrs (omega arith) in
    let no_cell : drop n cells ≡ [] = drop_all n cells (omega arith) in
    rw (no_instr, no_cell) refl
