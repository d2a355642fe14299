use Rattle.std.proofs.Common.{◌≡◌, drop}
use Rattle.micro_asm.specs.Settings.{value_given}
use Rattle.micro_asm.proofs.settings.value_given.Given as goal

abbrev pub invariant-loop-setting : goal.invariant-loop-setting
invariant-loop-setting l = value_given l.name (drop l.setting-index l.settings) ≡ value_given l.name l.settings
