use Rattle.prom_split.proofs.SplitSteps.{Written}
use Rattle.prom_split.proofs.splitting.split.Given as goal

-- the images so far are those of the words
abbrev pub invariant-loop-place : goal.invariant-loop-place
invariant-loop-place l = Written l.decl.prom_bits l.words l.place l.proms.items
