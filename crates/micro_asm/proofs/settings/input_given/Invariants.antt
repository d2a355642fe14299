use Rattle.std.proofs.Common.{◌≡◌, drop}
use Rattle.micro_asm.specs.Settings.{input_given}
use Rattle.micro_asm.proofs.settings.input_given.Given as goal

abbrev pub invariant-loop-setting : goal.invariant-loop-setting
invariant-loop-setting l = input_given (drop l.setting-index l.settings) ≡ input_given l.settings
