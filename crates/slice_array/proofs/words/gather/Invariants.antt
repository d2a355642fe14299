use Rattle.std.proofs.Common.{◌≡◌, drop}
use Rattle.slice_array.specs.Whole.{whole}
use Rattle.slice_array.specs.Regs.{registers_of}
use Rattle.slice_array.proofs.words.gather.Given as goal

abbrev pub invariant-loop-j : goal.invariant-loop-j
invariant-loop-j l = registers_of l.regs ≡ whole (drop l.j l.slices)
