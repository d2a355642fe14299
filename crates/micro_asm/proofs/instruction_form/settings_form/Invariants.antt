use Rattle.std.proofs.Common.{◌≡◌, length}
use Rattle.micro_asm.specs.SourceLines.{settings_form, with_settings}
use Rattle.micro_asm.proofs.instruction_form.settings_form.Given as goal

abbrev pub invariant-loop-setting : goal.invariant-loop-setting
invariant-loop-setting l = with_settings l.settings.items (settings_form l.rest) ≡ settings_form l.words

abbrev pub decreases-loop-setting : goal.decreases-loop-setting
decreases-loop-setting l = length l.rest
