use Rattle.std.proofs.Common.{◌≡◌, ◌+◌, ◌<◌, ◌≤◌, length, false, subst, ◌∙◌, arith}
use Rattle.propagate.specs.Lists.{list_at}
use Rattle.propagate.specs.Visits.{Visits}
use Rattle.propagate.specs.Watching.{code_of}
use Rattle.propagate.specs.declared.visits.Visit.{Visit}
use Rattle.propagate.proofs.Steps.{step_trans, passed_more, value_extends}
use Rattle.propagate.proofs.propagation.go_through.Goals as goal

pub returns-in_err-visit_at-clause-step : goal.returns-in_err-visit_at-clause-step
returns-in_err-visit_at-clause-step c =
    step_trans c.args.list.now.vars c.args.list.now.clauses c.args.watches.now.lists c.clauses.watches.lists
    c.visit_at.new.watches.lists c.args.watches.now.pairs.items c.clauses.watches.pairs.items c.visit_at.new.watches.pairs.items
    c.args.trail.now.entries c.clauses.trail.entries c.visit_at.new.trail.entries c.args.lit c.clauses.place
    c.clauses.invariant.step c.visit_at.ensures.step

pub returns-in-Conflict-clause-step : goal.returns-in-Conflict-clause-step
returns-in-Conflict-clause-step c =
    step_trans c.args.list.now.vars c.args.list.now.clauses c.args.watches.now.lists c.clauses.watches.lists
    c.visit_at.new.watches.lists c.args.watches.now.pairs.items c.clauses.watches.pairs.items c.visit_at.new.watches.pairs.items
    c.args.trail.now.entries c.clauses.trail.entries c.visit_at.new.trail.entries c.args.lit c.clauses.place
    c.clauses.invariant.step c.visit_at.ensures.step

pub clauses-preserved-in-Kept : goal.clauses-preserved-in-Kept
clauses-preserved-in-Kept c =
    let k = c.clauses.invariant in
    let s = c.visit_at.ensures.step in
    let place = c.clauses.place in
    let clauses = c.args.list.now.clauses in
    let old = c.clauses.watches.lists in
    let new = c.visit_at.new.watches.lists in
    let after = c.visit_at.new.watches.pairs.items in
    let es = c.visit_at.new.trail.entries in
    let lit = c.args.lit in
    let told = subst (λ (r : Visit). Visits clauses old new after es lit place r) c.in-Kept.is c.in_ok-visit_at.ensures.told in
    let le : place ≤ place = omega arith in
    let within : place + 1 ≤ length (list_at new (code_of lit)) =
    let test : place < length (list_at old (code_of lit)) = (let t = c.clauses-test.true in
    rw (c.count_at.ensures, c.code_of_lit.ensures) at t) in
    omega (arith, test, told.0) in
    record {
      vars = c.visit_at.ensures.vars ∙ k.vars;
      is_false = value_extends lit false c.clauses.trail.entries es s.extends k.is_false;
      step =
          step_trans c.args.list.now.vars clauses c.args.watches.now.lists old new c.args.watches.now.pairs.items
          c.clauses.watches.pairs.items after c.args.trail.now.entries c.clauses.trail.entries es lit place k.step s;
      passed = passed_more clauses new after es lit place (s.passed place le k.passed) told.1;
      within = within;
    }

pub clauses-preserved : goal.clauses-preserved
clauses-preserved c =
    let k = c.clauses.invariant in
    let s = c.visit_at.ensures.step in
    let place = c.clauses.place in
    let clauses = c.args.list.now.clauses in
    let old = c.clauses.watches.lists in
    let new = c.visit_at.new.watches.lists in
    let after = c.visit_at.new.watches.pairs.items in
    let es = c.visit_at.new.trail.entries in
    let lit = c.args.lit in
    let told : length (list_at new (code_of lit)) + 1 ≡ length (list_at old (code_of lit)) =
    subst (λ (r : Visit). Visits clauses old new after es lit place r) c.in-Moved.is c.in_ok-visit_at.ensures.told in
    let le : place ≤ place = omega arith in
    let within : place ≤ length (list_at new (code_of lit)) =
    let test : place < length (list_at old (code_of lit)) = (let t = c.clauses-test.true in
    rw (c.count_at.ensures, c.code_of_lit.ensures) at t) in
    omega (arith, test, told) in
    record {
      vars = c.visit_at.ensures.vars ∙ k.vars;
      is_false = value_extends lit false c.clauses.trail.entries es s.extends k.is_false;
      step =
          step_trans c.args.list.now.vars clauses c.args.watches.now.lists old new c.args.watches.now.pairs.items
          c.clauses.watches.pairs.items after c.args.trail.now.entries c.clauses.trail.entries es lit place k.step s;
      passed = s.passed place le k.passed;
      within = within;
    }
