use Rattle.std.proofs.lemmas.Result.{err_from_is_err_and}
use Rattle.ref_text.proofs.TextLemmas.{Begins-front}
use Rattle.ref_text.proofs.printing.add_literals.Goals as goal

pub returns-in_err-add_literal-clause-err : goal.returns-in_err-add_literal-clause-err
returns-in_err-add_literal-clause-err c =
    let p = err_from_is_err_and c.from_residual.result c.from_residual.ensures.1 in
    rw p.1 (Begins-front c.args.out.now.items _ c.loop-lit.out.items c.add_literal.new.out.items c.loop-lit.invariant
    c.in_err-add_literal.ensures.err)
