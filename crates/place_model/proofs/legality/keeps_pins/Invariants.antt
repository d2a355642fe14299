use Rattle.std.proofs.Common.{◌≡◌, ◌<◌, ℕ, Some, slice_get}
use Rattle.flow_graph.specs.declared.pinning.Pin.{Pin}
use Rattle.place_model.proofs.legality.keeps_pins.Given as goal

-- the pinned labels so far have their cells
abbrev pub invariant-loop-pin : goal.invariant-loop-pin
invariant-loop-pin l =
    (k : ℕ) (pin : Pin) → k < l.pin-index → slice_get l.program.pins k ≡ Some pin → slice_get l.placement pin.label ≡ Some pin.cell
