use Rattle.std.proofs.Common.{◌≡◌, length}
use Rattle.bus_script.specs.Settings.{settings_of, with_front}
use Rattle.bus_script.proofs.clock_line.settings.Given as goal

abbrev pub invariant-loop-setting : goal.invariant-loop-setting
invariant-loop-setting l = with_front l.settings.items (settings_of l.rest) ≡ settings_of l.words

abbrev pub decreases-loop-setting : goal.decreases-loop-setting
decreases-loop-setting l = length l.rest
