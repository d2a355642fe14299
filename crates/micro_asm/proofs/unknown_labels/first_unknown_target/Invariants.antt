use Rattle.std.proofs.Common.{◌≡◌, drop}
use Rattle.std.specs.Prelude.{find}
use Rattle.std.specs.List.{list_any}
use Rattle.micro_asm.specs.Source.{is_unknown}
use Rattle.micro_asm.proofs.unknown_labels.first_unknown_target.Given as goal

abbrev pub invariant-loop-instr : goal.invariant-loop-instr
invariant-loop-instr l =
    find (λ instr. list_any (is_unknown l.table) instr.targets) (drop l.instr-index l.instrs) ≡ find
    (λ instr. list_any (is_unknown l.table) instr.targets) l.instrs
