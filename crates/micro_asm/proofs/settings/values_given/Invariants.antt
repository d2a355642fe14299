use Rattle.std.proofs.Common.{◌≡◌, take}
use Rattle.micro_asm.specs.Settings.{values_given}
use Rattle.micro_asm.proofs.settings.values_given.Given as goal

abbrev pub invariant-loop-place : goal.invariant-loop-place
invariant-loop-place l = l.values ≡ values_given (take l.place l.fields) l.settings
