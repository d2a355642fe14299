use Rattle.std.proofs.Common.{◌≡◌, drop}
use Rattle.bus_script.specs.SettingSteps.{nothing_given, given_after}
use Rattle.bus_script.proofs.clock_line.given_by.Given as goal

abbrev pub invariant-loop-setting : goal.invariant-loop-setting
invariant-loop-setting l = given_after l.slices l.given (drop l.setting-index l.settings) ≡ given_after l.slices nothing_given l.settings
