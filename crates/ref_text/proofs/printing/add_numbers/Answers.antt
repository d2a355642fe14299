use Rattle.std.proofs.lemmas.Result.{err_from_is_err_and}
use Rattle.ref_text.proofs.TextLemmas.{Begins-front}
use Rattle.ref_text.proofs.printing.add_numbers.Goals as goal

pub returns-in_err-add_number-clause-err : goal.returns-in_err-add_number-clause-err
returns-in_err-add_number-clause-err c =
    let p = err_from_is_err_and c.from_residual.result c.from_residual.ensures.1 in
    rw p.1 (Begins-front c.args.out.now.items _ c.loop-number.out.items c.add_number.new.out.items c.loop-number.invariant
    c.in_err-add_number.ensures.err)
