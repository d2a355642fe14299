use Rattle.std.proofs.Common.{◌≡◌, take}
use Rattle.std.specs.Prelude.{map}
use Rattle.micro_asm.specs.SourceLines.{target_of}
use Rattle.micro_asm.proofs.instruction_form.targets_of.Given as goal

abbrev pub invariant-loop-word : goal.invariant-loop-word
invariant-loop-word l = l.targets.items ≡ map target_of (take l.word-index l.words)
