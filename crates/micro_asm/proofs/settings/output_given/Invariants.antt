use Rattle.std.proofs.Common.{◌≡◌, drop}
use Rattle.micro_asm.specs.Settings.{output_given}
use Rattle.micro_asm.proofs.settings.output_given.Given as goal

abbrev pub invariant-loop-setting : goal.invariant-loop-setting
invariant-loop-setting l = output_given (drop l.setting-index l.settings) ≡ output_given l.settings
