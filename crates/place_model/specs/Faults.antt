-- What is wrong at an instruction, in the order in which it is told (this project's own choice).
use Rattle.std.specs.Prelude.{ℕ, ◌≡◌, ◌≢◌, ◌<◌, ◌≤◌, List, Some, slice_get}
use Rattle.mcu_jumps.specs.Position.{Position, IsCell}
use Rattle.flow_graph.specs.declared.instructions.Instr.{Instr}
use Rattle.flow_graph.specs.Graph.{Graph}
use Rattle.place_model.specs.Cells.{IsTakenBelow, IsFreeBelow}
use Rattle.place_model.specs.Legal.{HasJump, HasNoJump, origin}
use Rattle.place_model.specs.declared.faults.MapKind.{MapKind}
use Rattle.place_model.specs.declared.faults.MapKind.TheVariants.{Unpinned, SameCell, RowBound, StartCell, NoJump}

-- the first thing wrong with an instruction at a cell
abbrev pub IsWrong : Graph → List Position → ℕ → Instr → Position → MapKind → Type 0
IsWrong g place label instr cell Unpinned = ⊥
IsWrong g place label instr cell SameCell = IsTakenBelow place label cell
IsWrong g place label instr cell RowBound = IsFreeBelow place label cell × (g.rows ≤ cell.row)
IsWrong g place label instr cell StartCell =
    IsFreeBelow place label cell × (cell.row < g.rows) × (label ≡ g.start) × (cell ≢ origin)
IsWrong g place label instr cell NoJump =
    IsFreeBelow place label cell × (cell.row < g.rows) × (label ≡ g.start → cell ≡ origin) × HasNoJump place instr cell

-- an instruction and its cell
pub record StandsAt (g : Graph) (place : List Position) (label : ℕ) (instr : Instr) (cell : Position) : Type 0 where
  pub at_label : slice_get g.instrs label ≡ Some instr
  pub at_cell : slice_get place label ≡ Some cell

-- at a label, this kind is the first thing wrong
abbrev pub IsFaultAt : Graph → List Position → ℕ → MapKind → Type 0
IsFaultAt g place label kind = (instr : Instr) × (cell : Position) × StandsAt g place label instr cell
    × IsWrong g place label instr cell kind

-- nothing is wrong with an instruction at a cell
pub record IsRight (g : Graph) (place : List Position) (label : ℕ) (instr : Instr) (cell : Position) : Type 0 where
  pub in_matrix : IsCell cell
  pub apart : IsFreeBelow place label cell
  pub below_bound : cell.row < g.rows
  pub start_at_origin : label ≡ g.start → cell ≡ origin
  pub has_jump : HasJump place instr cell

-- nothing is wrong at a label
abbrev pub IsFaultless : Graph → List Position → ℕ → Type 0
IsFaultless g place label = (instr : Instr) (cell : Position) → StandsAt g place label instr cell → IsRight g place label instr cell

-- nothing is wrong at the first labels, as many as count
abbrev pub IsFaultlessBelow : Graph → List Position → ℕ → Type 0
IsFaultlessBelow g place count = (label : ℕ) → label < count → IsFaultless g place label

-- the first instruction at which something is wrong stands in this line, and this is the first thing wrong there
abbrev pub IsFirstFault : Graph → List Position → ℕ → MapKind → Type 0
IsFirstFault g place line kind =
    (label : ℕ) × (instr : Instr) × (cell : Position)
    × StandsAt g place label instr cell × (instr.line ≡ line) × IsWrong g place label instr cell kind × IsFaultlessBelow g place label
