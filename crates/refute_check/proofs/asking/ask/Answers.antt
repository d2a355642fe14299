use Rattle.std.proofs.Common.{◌∙◌, ◌-◌, ℤ, List, ap, arith}
use Rattle.refute_check.proofs.AskLemmas.{with_asked, ask_agrees, ask_keeps, need_not_ask, cost_is}
use Rattle.refute_check.proofs.asking.ask.Goals as goal

pub returns-in_ok-keep-clause-agrees : goal.returns-in_ok-keep-clause-agrees
returns-in_ok-keep-clause-agrees g c =
    ask_agrees (g.P.ClauseSource.list c.args.source.now) c.args.known.now c.keep.new.self (g.P.ClauseSource.given c.args.source.now)
    c.args.hint c.in_ok-clause.clause.items c.requires.known c.requires.hint.0
    (c.lacks.ensures.lacks c.if-lacks.true) c.in_ok-clause.ensures.clause.there
    (c.in_ok-keep.ensures.ok ∙ ap (λ (zs : List ℤ). with_asked c.args.known.now (c.args.hint - 1) zs) c.as_slice.ensures)

pub returns-in_ok-keep-clause-keeps : goal.returns-in_ok-keep-clause-keeps
returns-in_ok-keep-clause-keeps g c =
    ask_keeps (g.P.ClauseSource.list c.args.source.now) c.args.known.now c.keep.new.self (g.P.ClauseSource.given c.args.source.now)
    c.args.hint c.in_ok-clause.clause.items c.requires.known c.requires.hint.0
    (c.lacks.ensures.lacks c.if-lacks.true) c.in_ok-clause.ensures.clause.there
    (c.in_ok-keep.ensures.ok ∙ ap (λ (zs : List ℤ). with_asked c.args.known.now (c.args.hint - 1) zs) c.as_slice.ensures)

pub returns-in_ok-keep-clause-given : goal.returns-in_ok-keep-clause-given
returns-in_ok-keep-clause-given g c =
    omega (
      arith,
      c.in_ok-clause.ensures.counted,
      cost_is (g.P.ClauseSource.list c.args.source.now).clauses c.args.hint c.in_ok-clause.clause.items
          c.in_ok-clause.ensures.clause.there,
    )

pub returns-else-lacks-clause-agrees : goal.returns-else-lacks-clause-agrees
returns-else-lacks-clause-agrees g c =
    need_not_ask (g.P.ClauseSource.list c.args.source.now) c.args.known.now (g.P.ClauseSource.given c.args.source.now)
    c.args.hint c.requires.known c.requires.hint.0 (c.lacks.ensures.has c.if-lacks.false)
