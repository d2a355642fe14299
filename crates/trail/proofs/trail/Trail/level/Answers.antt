use Rattle.std.proofs.Common.{subst}
use Rattle.trail.specs.Assignment.{Assignment, IsTrail, IsLevelled}
use Rattle.trail.proofs.Levels.{IsTrail-levelled}
use Rattle.trail.proofs.trail.Trail.level.Goals as goal

pub returns-clause-levelled : goal.returns-clause-levelled
returns-clause-levelled c =
    let i = c.self.inside in
    subst (λ (a : Assignment). IsLevelled a.entries) c.self.view_is
    (IsTrail-levelled i.vars i.entries.items c.self.invariant.lists.ordered)

pub returns-clause-ordered : goal.returns-clause-ordered
returns-clause-ordered c = subst (λ (a : Assignment). IsTrail a.vars a.entries) c.self.view_is c.self.invariant.lists.ordered
