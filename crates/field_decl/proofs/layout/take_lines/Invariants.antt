use Rattle.std.proofs.Common.{◌≡◌, ◌-◌, ◌≤◌, ◌+◌, drop, length, []}
use Rattle.micro_lex.specs.Lines.{lines}
use Rattle.field_decl.specs.Earlier.{declared_by}
use Rattle.field_decl.specs.LayoutSteps.{after_lines}
use Rattle.field_decl.proofs.layout.take_lines.Given as goal

abbrev pub invariant-loop-span : goal.invariant-loop-span
invariant-loop-span l =
    record {
      within : l.at ≤ length l.bytes;
      few : l.number ≤ l.at;
      so_far : after_lines l.state (l.number + 1) (lines (drop l.at l.bytes)) ≡ after_lines (declared_by []) 1 (lines l.bytes);
    }

abbrev pub decreases-loop-span : goal.decreases-loop-span
decreases-loop-span l = length l.bytes - l.at
