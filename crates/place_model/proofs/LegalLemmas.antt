-- Legality from what each label's test told.
use Rattle.std.proofs.Common.{ℕ, ◌≡◌, ◌<◌, List, length, Some, slice_get, refl, ap, ◌∙◌, arith}
use Rattle.std.proofs.lemmas.Option.{slice_get_within}
use Rattle.mcu_jumps.specs.Position.{Position}
use Rattle.flow_graph.specs.declared.instructions.Instr.{Instr}
use Rattle.flow_graph.specs.Graph.{Graph}
use Rattle.place_model.specs.Legal.{IsLegal, KeepsPins}
use Rattle.place_model.specs.Faults.{IsRight, IsFaultlessBelow}
use Rattle.place_model.proofs.JumpLemmas.{cell_there}

-- what the tests told of the instruction at a cell
right_at : (g : Graph) (place : List Position) (label : ℕ) (cell : Position) → length place ≡ length g.instrs
    → IsFaultlessBelow g place (length place) → slice_get place label ≡ Some cell → (instr : Instr) × IsRight g place label instr cell
right_at g place label cell count faultless at =
    let within = slice_get_within place label cell at in
    let there : (x : Instr) × (slice_get g.instrs label ≡ Some x) = cell_there g.instrs label (omega arith) in
    (there.0, faultless label within there.0 cell (record { at_label = there.1; at_cell = at }))

-- a placement that keeps the pins, with nothing wrong at any label, is legal
pub IsLegal-from_faultless : (g : Graph) (place : List Position) → length place ≡ length g.instrs → g.start < length g.instrs
    → KeepsPins g.pins place → IsFaultlessBelow g place (length place) → IsLegal g place
IsLegal-from_faultless g place count start pins faultless = record {
  cell_for_each_label = count;
  in_matrix = λ label cell at. (right_at g place label cell count faultless at).1.in_matrix;
  cells_differ = λ i j cell at_i at_j. differ i j cell at_i at_j;
  pins_kept = pins;
  start_at_origin =
      (let there : (x : Position) × (slice_get place g.start ≡ Some x) = cell_there place g.start (omega arith) in
      there.1 ∙ ap Some ((right_at g place g.start there.0 count faultless there.1).1.start_at_origin refl));
  below_bound = λ label cell at. (right_at g place label cell count faultless at).1.below_bound;
  each_has_jump = λ label instr from at_label at_cell.
      (faultless label (slice_get_within place label from at_cell) instr from
      (record { at_label = at_label; at_cell = at_cell })).has_jump;
}
  where
    differ : (i j : ℕ) (cell : Position) → slice_get place i ≡ Some cell → slice_get place j ≡ Some cell → i ≡ j
    differ i j cell at_i at_j =
        let not_before : i < j → ⊥ = λ lt. (right_at g place j cell count faultless at_j).1.apart i lt at_i in
        let not_after : j < i → ⊥ = λ lt. (right_at g place i cell count faultless at_i).1.apart j lt at_j in
        omega arith
