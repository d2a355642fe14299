use Rattle.std.proofs.Common.{◌≡◌, vec_len}
use Rattle.place_model.proofs.PinLemmas.{ArePinnedBelow}
use Rattle.place_model.proofs.pinned_cells.pinned_cells.Given as goal

-- the labels so far have the cells of their pins
abbrev pub invariant-loop-label : goal.invariant-loop-label
invariant-loop-label l = record {
  count : vec_len l.cells ≡ l.label;
  pinned : ArePinnedBelow l.program.pins l.cells.items l.label;
}
