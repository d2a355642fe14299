use Rattle.std.proofs.Common.{ℕ, subst}
use Rattle.trail.specs.Assignment.{IsTrail}
use Rattle.propagate.specs.Standing.{Standing}
use Rattle.propagate.proofs.board.Board.trail.Goals as goal

pub returns-clause-ordered : goal.returns-clause-ordered
returns-clause-ordered c =
    let i = c.self.inside in
    subst (λ (b : Standing). IsTrail b.list.vars b.trail.entries) c.self.view_is
    (subst (λ (v : ℕ). IsTrail v i.trail.entries) c.self.invariant.sound.same_vars c.len-ordered.ensures.ordered)
