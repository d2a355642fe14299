use Rattle.std.proofs.Common.{◌∙◌, ◌+◌, ◌≤◌, refl, ap, subst}
use Rattle.clause_base.specs.declared.line.Line.{Line}
use Rattle.ref_text.specs.Fault.{is_empty}
use Rattle.ref_text.specs.declared.events.Event.TheVariants as event
use Rattle.refute_check.specs.Cost.{hints_cost, line_cost}
use Rattle.refute_check.specs.Judging.{spot_of, first_line}
use Rattle.refute_check.proofs.FedLemmas.{Feeds, feeds}
use Rattle.refute_check.proofs.JudgingLemmas.{stops_here, stops_line, on_err}
use Rattle.refute_check.proofs.NextLemmas.{stands_more, line_given, line_right, stands_line}
use Rattle.refute_check.proofs.judge.Judge.next_line.Goals as goal

pub judge_line-requires-clause-right : goal.judge_line-requires-clause-right
judge_line-requires-clause-right g c =
    let s = c.requires.stands in
    let r = c.args.self.now.reader in
    let f : Feeds r c.args.rest.now c.feed.new.self c.in_ok-fed.fed.used event.Line =
    subst (Feeds r c.args.rest.now c.feed.new.self c.in_ok-fed.fed.used) c.in-Line.is
    (feeds r c.feed.new.self c.args.rest.now c.in_ok-fed.fed s.bad c.in_ok-fed.ensures.fed c.in_ok-fed.ensures.reader) in
    let given = line_given r c.feed.new.self (first_line (spot_of c.args.self.now) c.args.rest.now)
    c.clause-clause.result.now c.hints-hints.result.now f.3 c.clause-clause.ensures c.hints-hints.ensures in
    line_right (g.P.ClauseSource.list c.args.source.now) c.args.self.now (g.P.ClauseSource.given c.args.source.now)
    c.args.rest.now c.clause-clause.result.now c.hints-hints.result.now s f.2 given

pub returns-in_err-why-in-Line-clause-fails : goal.returns-in_err-why-in-Line-clause-fails
returns-in_err-why-in-Line-clause-fails g c =
    let s = c.requires.stands in
    let r = c.args.self.now.reader in
    let list = g.P.ClauseSource.list c.args.source.now in
    let line = first_line (spot_of c.args.self.now) c.args.rest.now in
    let f : Feeds r c.args.rest.now c.feed.new.self c.in_ok-fed.fed.used event.Line =
    subst (Feeds r c.args.rest.now c.feed.new.self c.in_ok-fed.fed.used) c.in-Line.is
    (feeds r c.feed.new.self c.args.rest.now c.in_ok-fed.fed s.bad c.in_ok-fed.ensures.fed c.in_ok-fed.ensures.reader) in
    let given = line_given r c.feed.new.self line c.clause-clause.result.now c.hints-hints.result.now f.3 c.clause-clause.ensures
    c.hints-hints.ensures in
    let le : g.P.ClauseSource.given c.judge_line.new.source ≤ g.P.ClauseSource.given c.args.source.now + line_cost list.clauses line =
    subst (λ (l : Line).
    g.P.ClauseSource.given c.judge_line.new.source ≤ g.P.ClauseSource.given c.args.source.now + hints_cost list.clauses l.hints)
    given c.judge_line.ensures.given in
    on_err _ _ (stops_line list (spot_of c.args.self.now) (g.P.ClauseSource.given c.args.source.now)
    (g.P.ClauseSource.given c.judge_line.new.source) c.args.rest.now s.no_lf f.0 le)

pub returns-in_err-fed-clause-fails : goal.returns-in_err-fed-clause-fails
returns-in_err-fed-clause-fails g c =
    on_err _ _ (stops_here (g.P.ClauseSource.list c.args.source.now) (spot_of c.args.self.now) (g.P.ClauseSource.given c.args.source.now)
    (g.P.ClauseSource.given c.args.source.now) c.args.rest.now refl)

pub returns-in-More-clause-stands : goal.returns-in-More-clause-stands
returns-in-More-clause-stands g c =
    let s = c.requires.stands in
    let r = c.args.self.now.reader in
    let f : Feeds r c.args.rest.now c.feed.new.self c.in_ok-fed.fed.used event.More =
    subst (Feeds r c.args.rest.now c.feed.new.self c.in_ok-fed.fed.used) c.in-More.is
    (feeds r c.feed.new.self c.args.rest.now c.in_ok-fed.fed s.bad c.in_ok-fed.ensures.fed c.in_ok-fed.ensures.reader) in
    stands_more (g.P.ClauseSource.list c.args.source.now) c.args.self.now (g.P.ClauseSource.given c.args.source.now)
    c.feed.new.self c.args.rest.now s f.0 f.1

pub returns-in-None-clause-stands : goal.returns-in-None-clause-stands
returns-in-None-clause-stands g c =
    let s = c.requires.stands in
    let r = c.args.self.now.reader in
    let line = first_line (spot_of c.args.self.now) c.args.rest.now in
    let e = c.in_ok-why-in-Line.ensures in
    let f : Feeds r c.args.rest.now c.feed.new.self c.in_ok-fed.fed.used event.Line =
    subst (Feeds r c.args.rest.now c.feed.new.self c.in_ok-fed.fed.used) c.in-Line.is
    (feeds r c.feed.new.self c.args.rest.now c.in_ok-fed.fed s.bad c.in_ok-fed.ensures.fed c.in_ok-fed.ensures.reader) in
    let given = line_given r c.feed.new.self line c.clause-clause.result.now c.hints-hints.result.now f.3 c.clause-clause.ensures
    c.hints-hints.ensures in
    stands_line (g.P.ClauseSource.list c.args.source.now) c.args.self.now (g.P.ClauseSource.given c.args.source.now)
    (g.P.ClauseSource.given c.judge_line.new.source)
    c.judge_line.new.known c.judge_line.new.signs c.feed.new.self c.is_empty-self.result c.clause-clause.result.now line
    s f.3 e.known (e.signs ∙ s.signs) (e.derived c.in-None.is) c.in_ok-fed.ensures.small
    (c.is_empty-self.ensures ∙ ap (λ (l : Line). is_empty l) given)
