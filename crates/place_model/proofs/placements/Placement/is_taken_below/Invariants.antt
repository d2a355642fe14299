use Rattle.place_model.specs.Cells.{IsFreeBelow}
use Rattle.place_model.proofs.placements.Placement.is_taken_below.Given as goal

-- none of the labels so far has the cell
abbrev pub invariant-loop-label : goal.invariant-loop-label
invariant-loop-label l = IsFreeBelow l.self l.label l.cell
