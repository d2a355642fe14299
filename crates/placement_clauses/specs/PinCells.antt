-- Pins on the matrix.
use Rattle.std.specs.Prelude.{ℕ, ◌≡◌, List, Some, slice_get}
use Rattle.mcu_jumps.specs.Position.{IsCell}
use Rattle.flow_graph.specs.declared.pinning.Pin.{Pin}

-- the cell of each pin is one of the matrix
abbrev pub HavePinCells : List Pin → Type 0
HavePinCells pins = (k : ℕ) (pin : Pin) → slice_get pins k ≡ Some pin → IsCell pin.cell
