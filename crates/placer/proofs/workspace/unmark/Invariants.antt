use Rattle.std.proofs.Common.{◌≡◌, false, take}
use Rattle.std.specs.Prelude.{replicate}
use Rattle.placer.proofs.workspace.unmark.Given as goal

abbrev pub invariant-loop-mark : goal.invariant-loop-mark
invariant-loop-mark l = take l.mark-index l.marks ≡ replicate l.mark-index false
