use Rattle.std.proofs.Common.{ℕ, ◌+◌, ◌*◌, ap, arith}
use Rattle.std.proofs.lemmas.Int.Digits.{digits_value_more}
use Rattle.micro_lex.proofs.DigitValues.{so_far_le}
use Rattle.micro_lex.proofs.digits.value.Goals as goal

pub returns-in-None : goal.returns-in-None
returns-in-None c = λ lt.
    let more = digits_value_more c.args.radix c.args.digits.now c.loop-byte.byte-index c.loop-byte-test.true in
    let le = so_far_le c.args.radix c.args.digits.now (c.loop-byte.byte-index + 1) (omega arith) in
    let so_far = ap (λ (v : ℕ). v * c.args.radix) c.loop-byte.invariant.so_far in
    c.in-None.ensures (omega (arith, lt, more, le, so_far, c.digit.ensures))

pub loop-byte-preserved : goal.loop-byte-preserved
loop-byte-preserved c =
    let more = digits_value_more c.args.radix c.args.digits.now c.loop-byte.byte-index c.loop-byte-test.true in
    let so_far = ap (λ (v : ℕ). v * c.args.radix) c.loop-byte.invariant.so_far in
    record { so_far = omega (arith, more, so_far, c.in-Some.ensures, c.digit.ensures); fits = omega (arith, c.in-Some.ensures) }
