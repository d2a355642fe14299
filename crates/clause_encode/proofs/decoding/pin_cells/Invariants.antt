use Rattle.std.proofs.Common.{◌≡◌, ◌<◌, ℕ, Some}
use Rattle.std.specs.Prelude.{slice_get}
use Rattle.mcu_jumps.specs.Position.{IsCell}
use Rattle.flow_graph.specs.declared.pinning.Pin.{Pin}
use Rattle.clause_encode.proofs.decoding.pin_cells.Given as goal

-- the pins so far
abbrev pub invariant-loop-pin : goal.invariant-loop-pin
invariant-loop-pin l = (k : ℕ) (pin : Pin) → k < l.pin-index → slice_get l.pins k ≡ Some pin → IsCell pin.cell
