use Rattle.prom_split.proofs.JoinSteps.{Stacked}
use Rattle.prom_split.proofs.joining.number_at.Given as goal

-- the number has the bits of the images so far
abbrev pub invariant-loop-place : goal.invariant-loop-place
invariant-loop-place l = Stacked l.bits l.proms l.address l.place l.number
