use Rattle.refute_check.proofs.NextLemmas.{stands_new}
use Rattle.refute_check.proofs.judge.Judge.new.Goals as goal

pub returns-clause-stands : goal.returns-clause-stands
returns-clause-stands g c =
    let k = c.in_ok-new.ensures in
    stands_new (g.P.ClauseSource.list c.args.source.now) c.in_ok-new.field-0 c.in_ok-new-2.field-0 c.in_ok-new-3.field-0
    (g.P.ClauseSource.given c.args.source.now) c.vars-vars.result c.len-len.result
    k.vars k.sized k.none k.count k.derived c.in_ok-new-2.ensures c.in_ok-new-3.ensures c.vars-vars.ensures.value c.len-len.ensures
    c.requires.given c.requires.len
