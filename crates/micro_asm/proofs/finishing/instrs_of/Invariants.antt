use Rattle.std.proofs.Common.{◌≡◌, take}
use Rattle.std.specs.Prelude.{map}
use Rattle.micro_asm.specs.Source.{instr_of}
use Rattle.micro_asm.proofs.finishing.instrs_of.Given as goal

abbrev pub invariant-loop-instr : goal.invariant-loop-instr
invariant-loop-instr l = l.instrs.items ≡ map (instr_of l.table) (take l.instr-index l.table)
