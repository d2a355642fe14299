use Rattle.std.proofs.Common.{◌≡◌, take}
use Rattle.place_model.specs.Cells.{cells_of}
use Rattle.place_model.proofs.jumping.jump_to_labels.Given as goal

-- the cells of the outcomes so far are in place
abbrev pub invariant-loop-outcome : goal.invariant-loop-outcome
invariant-loop-outcome l = take l.outcome l.cells ≡ cells_of l.placement (take l.outcome l.targets)
