-- When a placement is legal, and which jump each instruction then becomes (this project's own choice,
-- over the jump table of the 3001's data sheet).
use Rattle.std.specs.Prelude.{ℕ, ◌≡◌, ◌<◌, ◌≤◌, List, Option, Some, length, slice_get}
use Rattle.mcu_jumps.specs.Position.{Position, IsCell}
use Rattle.mcu_jumps.specs.JumpWord.{JumpWord, IsJump, ac_of}
use Rattle.mcu_jumps.specs.NextAddress.{lands}
use Rattle.mcu_jumps.specs.Landing.{Admits}
use Rattle.flow_graph.specs.declared.instructions.Instr.{Instr}
use Rattle.flow_graph.specs.declared.pinning.Pin.{Pin}
use Rattle.flow_graph.specs.Graph.{Graph}
use Rattle.place_model.specs.Cells.{IsAt}

-- an instruction may become this jump at this cell: its statement admits it, and each outcome lands at its target
pub record MeetsLegality (place : List Position) (instr : Instr) (from : Position) (jump : JumpWord) : Type 0 where
  pub in_range : IsJump jump
  pub admitted : Admits instr.kind jump
  pub landings : (outcome : ℕ) (target : Option ℕ) → slice_get instr.targets outcome ≡ Some target
      → IsAt place target (lands from jump outcome)

-- an instruction may become some jump at this cell
abbrev pub HasJump : List Position → Instr → Position → Type 0
HasJump place instr from = (jump : JumpWord) × MeetsLegality place instr from jump

-- an instruction may become no jump at this cell
abbrev pub HasNoJump : List Position → Instr → Position → Type 0
HasNoJump place instr from = (jump : JumpWord) → MeetsLegality place instr from jump → ⊥

-- the jump that an instruction becomes at this cell: that of least AC value among those it may become
pub record IsJumpOf (place : List Position) (instr : Instr) (from : Position) (jump : JumpWord) : Type 0 where
  pub meets : MeetsLegality place instr from jump
  pub least : (other : JumpWord) → MeetsLegality place instr from other → ac_of jump ≤ ac_of other

-- the jump that the instruction at a label becomes
abbrev pub IsJumpAt : Graph → List Position → ℕ → JumpWord → Type 0
IsJumpAt g place label jump =
    (instr : Instr) (from : Position) → slice_get g.instrs label ≡ Some instr → slice_get place label ≡ Some from
    → IsJumpOf place instr from jump

-- row 0, column 0, where the flow starts
abbrev pub origin : Position
origin = record { row = 0; col = 0 }

-- each pinned label has its cell
abbrev pub KeepsPins : List Pin → List Position → Type 0
KeepsPins pins place = (k : ℕ) (pin : Pin) → slice_get pins k ≡ Some pin → slice_get place pin.label ≡ Some pin.cell

-- a placement, the list of the labels' cells, is legal
pub record IsLegal (g : Graph) (place : List Position) : Type 0 where
  pub cell_for_each_label : length place ≡ length g.instrs
  pub in_matrix : (label : ℕ) (cell : Position) → slice_get place label ≡ Some cell → IsCell cell
  pub cells_differ : (i j : ℕ) (cell : Position) → slice_get place i ≡ Some cell → slice_get place j ≡ Some cell → i ≡ j
  pub pins_kept : KeepsPins g.pins place
  pub start_at_origin : slice_get place g.start ≡ Some origin
  pub below_bound : (label : ℕ) (cell : Position) → slice_get place label ≡ Some cell → cell.row < g.rows
  pub each_has_jump : (label : ℕ) (instr : Instr) (from : Position) → slice_get g.instrs label ≡ Some instr
      → slice_get place label ≡ Some from → HasJump place instr from
