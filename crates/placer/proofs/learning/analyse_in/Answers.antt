use Rattle.std.proofs.Common.{ℕ, sym, subst}
use Rattle.trail.specs.Assignment.{IsTrail}
use Rattle.placer.proofs.NewLine.{IsNew-asserts, Asserts_full}
use Rattle.placer.proofs.learning.analyse_in.Goals as goal

pub returns-clause-full : goal.returns-clause-full
returns-clause-full c =
    let learnt = c.in_ok-learnt.learnt in
    Asserts_full c.args.board.now.trail.entries learnt.line.clause learnt.back c.in_ok-learnt.ensures.asserts

pub returns-clause-new : goal.returns-clause-new
returns-clause-new c =
    let b = c.args.board.now in
    let learnt = c.in_ok-learnt.learnt in
    let t : IsTrail b.trail.vars b.trail.entries =
    subst (λ (v : ℕ). IsTrail v b.trail.entries) (sym c.trail-trail.ensures.sound.same_vars) c.trail-trail.ensures.ordered in
    IsNew-asserts b learnt.line.clause learnt.back t c.trail-trail.ensures.sound c.list-clauses.ensures.valid c.in_ok-learnt.ensures.asserts
