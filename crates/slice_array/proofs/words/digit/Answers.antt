use Rattle.std.proofs.Common.{◌≡◌, sym, subst, length, rules, arith}
use Rattle.cpe_slice.specs.Registers.{Registers, AllBelow}
use Rattle.slice_array.specs.Whole.{digit}
use Rattle.slice_array.specs.Regs.{registers_of}
use Rattle.slice_array.proofs.WholeDigits.{digit_is, digit_below}
use Rattle.slice_array.proofs.words.digit.Goals as goal

pub returns-clause-value : goal.returns-clause-value
returns-clause-value c =
    let ten : length c.args.regs.now.r ≡ 10 = search rules in
    rw (c.set_mar.ensures.value, c.set-3.ensures.value, c.set-2.ensures.value)
    (digit_is c.args.j (registers_of c.args.regs.now) c.loop-number.slice.r c.loop-number.invariant.ten ten
    (λ n h. c.loop-number.invariant.filled n (omega arith)))

pub returns-clause-below : goal.returns-clause-below
returns-clause-below c =
    let ten : length c.args.regs.now.r ≡ 10 = search rules in
    let is : c.set_mar.new.self ≡ digit c.args.j (registers_of c.args.regs.now) =
    rw (c.set_mar.ensures.value, c.set-3.ensures.value, c.set-2.ensures.value)
    (digit_is c.args.j (registers_of c.args.regs.now) c.loop-number.slice.r c.loop-number.invariant.ten ten
    (λ n h. c.loop-number.invariant.filled n (omega arith))) in
    subst (λ (w : Registers). AllBelow 4 w) (sym is) (digit_below c.args.j (registers_of c.args.regs.now) ten)
