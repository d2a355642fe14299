use Rattle.std.proofs.Common.{◌≤◌, ◌+◌, ◌∙◌, ℕ, List, get_or, subst, arith}
use Rattle.std.specs.Prelude.{All}
use Rattle.std.proofs.lemmas.List.{take_all}
use Rattle.clause_base.specs.Clauses.{Clauses}
use Rattle.refute_check.specs.Known.{IsKnown, Agrees}
use Rattle.refute_check.specs.Cost.{hint_cost}
use Rattle.refute_check.proofs.AskLemmas.{agree_more, cost_more}
use Rattle.refute_check.proofs.asking.ask_all.Goals as goal

pub loop-hint-preserved : goal.loop-hint-preserved
loop-hint-preserved g c =
    let l = c.loop-hint in
    let list = g.P.ClauseSource.list c.args.source.now in
    let e = c.in_ok-ask.ensures in
    let hint = get_or c.args.hints.now l.hint-index 0 in
    let here : Agrees list c.ask.new.known hint = subst (λ (cs : Clauses). Agrees cs c.ask.new.known hint) l.invariant.list e.agrees in
    let keeps : (h : ℕ) → Agrees list l.known h → Agrees list c.ask.new.known h =
    subst (λ (cs : Clauses). (h : ℕ) → Agrees cs l.known h → Agrees cs c.ask.new.known h) l.invariant.list e.keeps in
    let given = subst (λ (cs : Clauses).
    g.P.ClauseSource.given c.ask.new.source ≤ g.P.ClauseSource.given l.source + hint_cost cs.clauses hint) l.invariant.list e.given in
    record {
      list = e.list ∙ l.invariant.list;
      derived = e.derived ∙ l.invariant.derived;
      known = subst (λ (cs : Clauses). IsKnown cs c.ask.new.known (g.P.ClauseSource.given c.ask.new.source)) l.invariant.list e.known;
      agree = agree_more (Agrees list l.known) (Agrees list c.ask.new.known)
          c.args.hints.now l.hint-index c.loop-hint-test.true l.invariant.agree keeps here;
      given = omega (arith, given, cost_more list.clauses c.args.hints.now l.hint-index c.loop-hint-test.true, l.invariant.given);
    }

pub returns-clause-agree : goal.returns-clause-agree
returns-clause-agree g c =
    subst (λ (hs : List ℕ). All (Agrees (g.P.ClauseSource.list c.args.source.now) c.loop-hint.known) hs)
    (take_all c.loop-hint.hint-index c.args.hints.now c.loop-hint-test.false) c.loop-hint.invariant.agree
