use Rattle.place_model.specs.Cells.{IsFreeBelow}
use Rattle.prom_split.proofs.placed_words.label_at.Given as goal

-- none of the labels so far is placed there
abbrev pub invariant-loop-label : goal.invariant-loop-label
invariant-loop-label l = IsFreeBelow l.placement l.label l.cell
