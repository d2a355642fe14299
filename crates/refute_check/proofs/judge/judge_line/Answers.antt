use Rattle.std.proofs.Common.{◌∙◌, sym}
use Rattle.refute_check.proofs.AskLemmas.{judged_by_all}
use Rattle.refute_check.proofs.judge.judge_line.Goals as goal

pub returns-in-Some-clause-told : goal.returns-in-Some-clause-told
returns-in-Some-clause-told g c =
    judged_by_all (g.P.ClauseSource.list c.args.source.now)
    c.args.known.now c.ask_all.new.known _ c.args.clause.now c.args.hints.now c.ask_all.ensures.derived c.requires.right.some
    c.in_ok-ask_all.ensures.agree
    (sym c.in-Some.is ∙ c.in_ok-why.ensures.exact)

pub returns-in_ok-add_line-in-None-clause-told : goal.returns-in_ok-add_line-in-None-clause-told
returns-in_ok-add_line-in-None-clause-told g c =
    judged_by_all (g.P.ClauseSource.list c.args.source.now)
    c.args.known.now c.ask_all.new.known _ c.args.clause.now c.args.hints.now c.ask_all.ensures.derived c.requires.right.some
    c.in_ok-ask_all.ensures.agree
    (sym c.in-None.is ∙ c.in_ok-why.ensures.exact)
