-- The cells of a placement, and the cells that targets ask for. What the trap asks for is this project's own choice.
use Rattle.std.specs.Prelude.{ℕ, ◌≡◌, ◌≢◌, ◌<◌, List, Option, Some, None, map, slice_get}
use Rattle.std.specs.Option.{option_and_then}
use Rattle.mcu_jumps.specs.Position.{Position}
use Rattle.mcu_jumps.specs.JumpWord.{JumpWord}
use Rattle.mcu_jumps.specs.NextAddress.{lands}

-- one of the first labels, as many as count, has the cell
abbrev pub IsTakenBelow : List Position → ℕ → Position → Type 0
IsTakenBelow place count cell = (label : ℕ) × (label < count) × (slice_get place label ≡ Some cell)

-- none of the first labels, as many as count, has the cell
abbrev pub IsFreeBelow : List Position → ℕ → Position → Type 0
IsFreeBelow place count cell = (label : ℕ) → label < count → slice_get place label ≢ Some cell

-- a target is at a cell: a label at its own, the trap at a cell that no label has
abbrev pub IsAt : List Position → Option ℕ → Position → Type 0
IsAt place (Some label) cell = slice_get place label ≡ Some cell
IsAt place None cell = (label : ℕ) → slice_get place label ≢ Some cell

-- each outcome that leads to the trap lands on a cell that no label has
abbrev pub LandsTrapsFree : List Position → List (Option ℕ) → Position → JumpWord → Type 0
LandsTrapsFree place targets from jump = (outcome : ℕ) → slice_get targets outcome ≡ Some None → IsAt place None (lands from jump outcome)

-- the cell of a target with a label, none for the trap
abbrev pub cell_of : List Position → Option ℕ → Option Position
cell_of place target = option_and_then (slice_get place) target

-- the cell of each target
abbrev pub cells_of : List Position → List (Option ℕ) → List (Option Position)
cells_of place targets = map (cell_of place) targets
