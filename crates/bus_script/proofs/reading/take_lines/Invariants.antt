use Rattle.std.proofs.Common.{◌≡◌, ◌-◌, ◌≤◌, ◌+◌, drop, length, []}
use Rattle.micro_lex.specs.Lines.{lines}
use Rattle.bus_script.specs.Script.{script_by}
use Rattle.bus_script.specs.ScriptSteps.{after_lines}
use Rattle.bus_script.proofs.reading.take_lines.Given as goal

abbrev pub invariant-loop-span : goal.invariant-loop-span
invariant-loop-span l =
    record {
      within : l.at ≤ length l.bytes;
      few : l.number ≤ l.at;
      so_far : after_lines l.slices l.script (l.number + 1) (lines (drop l.at l.bytes)) ≡ after_lines l.slices (script_by []) 1
          (lines l.bytes);
    }

abbrev pub decreases-loop-span : goal.decreases-loop-span
decreases-loop-span l = length l.bytes - l.at
