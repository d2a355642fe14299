use Rattle.std.proofs.Common.{arith}
use Rattle.slice_array.specs.Regs.{registers_of}
use Rattle.slice_array.proofs.WholeDigits.{joined_is}
use Rattle.slice_array.proofs.words.joined.Goals as goal

pub returns : goal.returns
returns c =
    rw (c.from-2.ensures, c.get-2.ensures.value, c.from-3.ensures, c.get-3.ensures.value, c.from-4.ensures, c.mar.ensures.value)
    (joined_is c.args.slice.now (registers_of c.args.regs.now)
    c.loop-number.r c.loop-number.invariant.ten c.requires.regs.ten c.requires.slice.ten
    (λ n h. c.loop-number.invariant.filled n (omega arith)))
