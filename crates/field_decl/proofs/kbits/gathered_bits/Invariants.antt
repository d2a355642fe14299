use Rattle.std.proofs.Common.{◌≡◌, ◌-◌, ◌/◌, ◌^◌, ◌*◌}
use Rattle.field_decl.specs.KBits.{gathered_bits}
use Rattle.field_decl.proofs.kbits.gathered_bits.Given as goal

abbrev pub invariant-loop-j : goal.invariant-loop-j
invariant-loop-j l = l.kbits ≡ gathered_bits l.share (l.count - l.j) (l.mask / 2 ^ (l.j * l.share))
