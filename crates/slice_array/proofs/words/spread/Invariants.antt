use Rattle.std.proofs.Common.{ℕ, ◌<◌, ◌≡◌, get_or}
use Rattle.cpe_slice.specs.Registers.{Registers}
use Rattle.slice_array.specs.Whole.{digit}
use Rattle.slice_array.specs.Regs.{registers_of}
use Rattle.slice_array.proofs.words.spread.Given as goal

abbrev pub invariant-loop-j : goal.invariant-loop-j
invariant-loop-j l = (i : ℕ) (d : Registers) → i < l.j → get_or l.slices i d ≡ digit i (registers_of l.regs)
