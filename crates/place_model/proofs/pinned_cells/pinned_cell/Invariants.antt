use Rattle.std.proofs.Common.{◌≡◌, ◌≢◌, ◌<◌, ℕ, Some, slice_get}
use Rattle.flow_graph.specs.declared.pinning.Pin.{Pin}
use Rattle.place_model.proofs.pinned_cells.pinned_cell.Given as goal

-- none of the pins so far names the label
abbrev pub invariant-loop-pin : goal.invariant-loop-pin
invariant-loop-pin l = (k : ℕ) (pin : Pin) → k < l.pin-index → slice_get l.pins k ≡ Some pin → pin.label ≢ l.label
