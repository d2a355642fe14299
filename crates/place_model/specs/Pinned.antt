-- The placement that pins give, and why a program is refused where they give no legal one
-- (this project's own choice).
use Rattle.std.specs.Prelude.{ℕ, ◌≡◌, ◌≢◌, ◌<◌, List, Some, length, slice_get}
use Rattle.mcu_jumps.specs.Position.{Position}
use Rattle.flow_graph.specs.declared.instructions.Instr.{Instr}
use Rattle.flow_graph.specs.declared.pinning.Pin.{Pin}
use Rattle.flow_graph.specs.Graph.{Graph}
use Rattle.place_model.specs.Faults.{IsFirstFault}
use Rattle.place_model.specs.declared.faults.MapKind.{MapKind}
use Rattle.place_model.specs.declared.faults.MapKind.TheVariants.{Unpinned}
use Rattle.field_decl.specs.declared.refusal.Refusal.{Refusal}
use Rattle.field_decl.specs.declared.refusal.Refusal.TheVariants.{At, OutOfMemory}

-- a pin gives the label this cell
abbrev pub IsPinnedTo : List Pin → ℕ → Position → Type 0
IsPinnedTo pins label cell = (k : ℕ) × (slice_get pins k ≡ Some (record { label = label; cell = cell }))

-- no pin names the label
abbrev pub IsUnpinned : List Pin → ℕ → Type 0
IsUnpinned pins label = (k : ℕ) (pin : Pin) → slice_get pins k ≡ Some pin → pin.label ≢ label

-- a placement that gives each label the cell of its pin
pub record ArePinnedCells (g : Graph) (place : List Position) : Type 0 where
  pub cell_for_each_label : length place ≡ length g.instrs
  pub pinned : (label : ℕ) (cell : Position) → slice_get place label ≡ Some cell → IsPinnedTo g.pins label cell

-- the first instruction whose label has no pin stands in this line
abbrev pub IsFirstUnpinned : Graph → ℕ → Type 0
IsFirstUnpinned g line =
    (label : ℕ) × (instr : Instr) × (slice_get g.instrs label ≡ Some instr) × (instr.line ≡ line) × IsUnpinned g.pins label
    × ((earlier : ℕ) → earlier < label → (cell : Position) × IsPinnedTo g.pins earlier cell)

-- why a program is refused: a label with no pin comes first; else the first fault of the pinned cells
abbrev pub IsRefusal : Graph → Refusal MapKind → Type 0
IsRefusal g (At line Unpinned) = IsFirstUnpinned g line
IsRefusal g (At line kind) = (place : List Position) × ArePinnedCells g place × IsFirstFault g place line kind
IsRefusal g OutOfMemory = Unit {0}
