use Rattle.std.proofs.Common.{◌≡◌, ◌+◌, ◌-◌, length, drop}
use Rattle.placer.specs.Progress.{paired}
use Rattle.placer.proofs.board_readings.learned_lines.Given as goal

abbrev pub invariant-hints : goal.invariant-hints
invariant-hints l = record {
  at : l.number ≡ length l.list.clauses - length l.fn.hints.items + length l.yielded;
  made : l.lines.items ≡ paired l.yielded (drop (length l.list.clauses - length l.fn.hints.items) l.list.clauses);
}
