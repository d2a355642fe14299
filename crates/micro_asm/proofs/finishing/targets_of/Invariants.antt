use Rattle.std.proofs.Common.{◌≡◌, take}
use Rattle.std.specs.Prelude.{map}
use Rattle.micro_asm.specs.Source.{target_place}
use Rattle.micro_asm.proofs.finishing.targets_of.Given as goal

abbrev pub invariant-loop-target : goal.invariant-loop-target
invariant-loop-target l = l.labels.items ≡ map (target_place l.instrs) (take l.target-index l.targets)
