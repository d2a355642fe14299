use Rattle.std.proofs.Common.{◌≡◌, ◌<◌, ◌≤◌, ap, ◌∙◌, arith, None}
use Rattle.std.proofs.lemmas.List.Sums.{sum_by_push}
use Rattle.clause_base.specs.Lit.{var_of}
use Rattle.clause_base.specs.declared.entry.Entry.{Entry}
use Rattle.trail.specs.Assignment.{value_of, step_of}
use Rattle.trail.proofs.Signs.{sign-unassigned}
use Rattle.trail.proofs.Order.{Follows-unassigned, IsTrail-push}
use Rattle.trail.proofs.Levels.{step-implied}
use Rattle.trail.proofs.Changes.{length-kept, AreKept-push}
use Rattle.trail.proofs.trail.Trail.imply.Goals as goal

pub push_reserved-requires : goal.push_reserved-requires
push_reserved-requires c =
    let i = c.self.inside in
    let k = c.self.invariant in
    let none : value_of c.args.lit i.entries.items ≡ None = ap (λ a. value_of c.args.lit a.entries) c.self.view_is
    ∙ c.requires.unassigned in
    let le : var_of c.args.lit ≤ i.vars = omega (arith, c.requires.in_range, ap (λ a. a.vars) c.self.view_is) in
    let room = length-kept i.vars i.entries.items i.signs.items (var_of c.args.lit) k.lists le
    (sign-unassigned c.args.lit i.entries.items none) in
    omega (arith, room, k.room, i.entries.ok)

pub invariant_of-self : goal.invariant_of-self
invariant_of-self c =
    let i = c.self.inside in
    let k = c.self.invariant in
    let none : value_of c.args.lit i.entries.items ≡ None = ap (λ a. value_of c.args.lit a.entries) c.self.view_is
    ∙ c.requires.unassigned in
    let le : var_of c.args.lit ≤ i.vars = omega (arith, c.requires.in_range, ap (λ a. a.vars) c.self.view_is) in
    let e : Entry = record { lit = c.args.lit; level = i.level; reason = c.args.reason } in
    let no_step : step_of e ≡ 0 = step-implied e c.requires.implied in
    let above : 0 < var_of c.args.lit = omega (arith, c.var.ensures.above, c.var.ensures.value) in
    let follows = Follows-unassigned i.vars i.entries.items e above le none (omega (arith, k.level, no_step)) in
    record {
      few = k.few;
      room = omega (arith, k.room, c.push_reserved.ensures.capacity);
      level = rw c.push_reserved.ensures.items (omega (arith, k.level, no_step, sum_by_push step_of i.entries.items e));
      lists = rw (c.push_reserved.ensures.items, c.var.ensures.value, c.is_positive.ensures)
          (AreKept-push i.vars i.entries.items i.signs.items e k.lists follows);
    }

pub returns-clause-ordered : goal.returns-clause-ordered
returns-clause-ordered c =
    let i = c.self.inside in
    let k = c.self.invariant in
    let none : value_of c.args.lit i.entries.items ≡ None = ap (λ a. value_of c.args.lit a.entries) c.self.view_is
    ∙ c.requires.unassigned in
    let le : var_of c.args.lit ≤ i.vars = omega (arith, c.requires.in_range, ap (λ a. a.vars) c.self.view_is) in
    let e : Entry = record { lit = c.args.lit; level = i.level; reason = c.args.reason } in
    let above : 0 < var_of c.args.lit = omega (arith, c.var.ensures.above, c.var.ensures.value) in
    rw c.push_reserved.ensures.items
    (IsTrail-push i.vars i.entries.items e k.lists.ordered
    (Follows-unassigned i.vars i.entries.items e above le none (omega (arith, k.level, step-implied e c.requires.implied))))
