use Rattle.std.proofs.Common.{ℕ, ◌+◌, ◌*◌, ap, arith}
use Rattle.std.proofs.lemmas.Int.Digits.{digits_value_more}
use Rattle.std.proofs.lemmas.Str.Parse.{digits_value-take-le}
use Rattle.ref_text.proofs.words.digits_value.Goals as goal

pub returns-in-None : goal.returns-in-None
returns-in-None c = λ lt.
    let more = digits_value_more 10 c.args.digits.now c.loop-byte.byte-index c.loop-byte-test.true in
    let le = digits_value-take-le 10 c.args.digits.now (c.loop-byte.byte-index + 1) (omega arith) in
    let so_far = ap (λ (v : ℕ). v * 10) c.loop-byte.invariant.so_far in
    c.in-None.ensures (omega (arith, lt, more, le, so_far, c.digit.ensures))

pub loop-byte-preserved : goal.loop-byte-preserved
loop-byte-preserved c =
    let more = digits_value_more 10 c.args.digits.now c.loop-byte.byte-index c.loop-byte-test.true in
    let so_far = ap (λ (v : ℕ). v * 10) c.loop-byte.invariant.so_far in
    record { so_far = omega (arith, more, so_far, c.in-Some.ensures, c.digit.ensures); fits = omega (arith, c.in-Some.ensures) }
