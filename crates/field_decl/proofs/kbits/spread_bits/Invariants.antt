use Rattle.std.proofs.Common.{◌≡◌, ◌-◌, ◌/◌, ◌^◌}
use Rattle.field_decl.specs.KBits.{spread_bits}
use Rattle.field_decl.proofs.kbits.spread_bits.Given as goal

abbrev pub invariant-loop-j : goal.invariant-loop-j
invariant-loop-j l = l.mask ≡ spread_bits l.share (l.count - l.j) (l.kbits / 2 ^ l.j)
