use Rattle.std.proofs.Common.{arith, ap, subst}
use Rattle.trail.specs.Assignment.{Assignment, IsTrail}
use Rattle.trail.proofs.Signs.{count-le}
use Rattle.trail.proofs.trail.Trail.len.Goals as goal

pub returns-clause-few : goal.returns-clause-few
returns-clause-few c =
    let i = c.self.inside in
    let k = c.self.invariant.lists in
    omega (arith, count-le i.signs.items, k.counted, k.sized, i.entries.ok, ap (λ a. a.vars) c.self.view_is)

pub returns-clause-ordered : goal.returns-clause-ordered
returns-clause-ordered c = subst (λ (a : Assignment). IsTrail a.vars a.entries) c.self.view_is c.self.invariant.lists.ordered
