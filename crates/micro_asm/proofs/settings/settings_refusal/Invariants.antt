use Rattle.std.proofs.Common.{◌≡◌, [], take, drop}
use Rattle.micro_asm.specs.Settings.{settings_refusal}
use Rattle.micro_asm.proofs.settings.settings_refusal.Given as goal

abbrev pub invariant-loop-place : goal.invariant-loop-place
invariant-loop-place l =
    settings_refusal l.fields (take l.place l.settings) (drop l.place l.settings) ≡ settings_refusal l.fields [] l.settings
