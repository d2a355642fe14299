use Rattle.std.proofs.Common.{◌≡◌, ◌<◌, ◌≤◌, ℕ, ℤ, List, length, Some, sym, ap, subst, ◌∙◌, arith}
use Rattle.std.specs.Prelude.{slice_get}
use Rattle.std.proofs.lemmas.Option.{MatchOption-at_none}
use Rattle.clause_base.specs.Lit.{var_of}
use Rattle.clause_base.specs.Truth.{lits_of, IsConflict}
use Rattle.clause_base.specs.declared.entry.Entry.{Entry}
use Rattle.trail.specs.Assignment.{value_of}
use Rattle.propagate.specs.Lists.{list_at}
use Rattle.propagate.specs.Watching.{code_of, AreGuarded, ArePassed}
use Rattle.propagate.proofs.Extending.{Extends_trans, longer_extends}
use Rattle.propagate.proofs.Guarding.{are_guarded_see, queue_extends, queue_first, queue_see}
use Rattle.propagate.proofs.Steps.{take_extends, get_extends}
use Rattle.clause_base.proofs.LiteralLemmas.{var_neg}
use Rattle.propagate.proofs.Values.{false_there}
use Rattle.propagate.proofs.propagation.run_queue.Goals as goal

pub go_through-requires-clause-in_range : goal.go_through-requires-clause-in_range
go_through-requires-clause-in_range c =
    let e = c.entry.result in
    let f = c.len.ensures.ordered c.entries.head e c.entry.ensures in
    let le : var_of e.lit ≤ c.entries.trail.vars = f.in_range in
    let same : var_of c.negated-lit.result ≡ var_of e.lit = ap var_of c.negated-lit.ensures ∙ var_neg e.lit in
    omega (arith, le, same, c.entries.invariant.vars)

pub go_through-requires-clause-is_false : goal.go_through-requires-clause-is_false
go_through-requires-clause-is_false c =
    ap (λ z. value_of z c.entries.trail.entries) c.negated-lit.ensures
    ∙ false_there c.entries.trail.vars c.entries.trail.entries c.entries.head c.entry.result c.len.ensures.ordered c.entry.ensures

pub returns-in_err-number-clause-extends : goal.returns-in_err-number-clause-extends
returns-in_err-number-clause-extends c =
    Extends_trans c.args.trail.now.entries c.entries.trail.entries c.go_through.new.trail.entries c.entries.invariant.extends
    c.go_through.ensures.step.extends

pub returns-in_err-number-clause-queue : goal.returns-in_err-number-clause-queue
returns-in_err-number-clause-queue c =
    queue_extends c.entries.head c.entries.trail.entries c.go_through.new.trail.entries c.go_through.ensures.step.extends
    c.entries.invariant.queue

pub returns-in_err-number-clause-guarded : goal.returns-in_err-number-clause-guarded
returns-in_err-number-clause-guarded c =
    let s = c.go_through.ensures.step in
    let k = c.entries.invariant in
    subst (λ (seen : List Entry). AreGuarded c.args.list.now.clauses c.go_through.new.watches.lists
    c.go_through.new.watches.pairs.items seen c.go_through.new.trail.entries)
    (sym (take_extends c.entries.head c.entries.trail.entries c.go_through.new.trail.entries s.extends k.queue.within))
    (s.guarded c.entries.head k.guarded)

pub returns-in-Some-clause-extends : goal.returns-in-Some-clause-extends
returns-in-Some-clause-extends c =
    Extends_trans c.args.trail.now.entries c.entries.trail.entries c.go_through.new.trail.entries c.entries.invariant.extends
    c.go_through.ensures.step.extends

pub returns-in-Some-clause-queue : goal.returns-in-Some-clause-queue
returns-in-Some-clause-queue c =
    queue_extends c.entries.head c.entries.trail.entries c.go_through.new.trail.entries c.go_through.ensures.step.extends
    c.entries.invariant.queue

pub returns-in-Some-clause-guarded : goal.returns-in-Some-clause-guarded
returns-in-Some-clause-guarded c =
    let s = c.go_through.ensures.step in
    let k = c.entries.invariant in
    subst (λ (seen : List Entry). AreGuarded c.args.list.now.clauses c.go_through.new.watches.lists
    c.go_through.new.watches.pairs.items seen c.go_through.new.trail.entries)
    (sym (take_extends c.entries.head c.entries.trail.entries c.go_through.new.trail.entries s.extends k.queue.within))
    (s.guarded c.entries.head k.guarded)

pub entries-preserved : goal.entries-preserved
entries-preserved c =
    let s = c.go_through.ensures.step in
    let k = c.entries.invariant in
    let head = c.entries.head in
    let old = c.entries.trail.entries in
    let new = c.go_through.new.trail.entries in
    let clauses = c.args.list.now.clauses in
    let lists = c.go_through.new.watches.lists in
    let pairs = c.go_through.new.watches.pairs.items in
    let queue = queue_extends head old new s.extends k.queue in
    let longer = longer_extends old new s.extends in
    let lt : head < length new = (let t = c.entries-test.true in omega (arith, t, c.len.ensures.len, longer)) in
    let e = c.entry.result in
    let there : slice_get new head ≡ Some e = get_extends old new head e s.extends c.entry.ensures in
    let told : ArePassed clauses lists pairs new c.negated-lit.result (length (list_at lists (code_of c.negated-lit.result))) =
    MatchOption-at_none (ArePassed clauses lists pairs new c.negated-lit.result
    (length (list_at lists (code_of c.negated-lit.result))))
    (λ (n : ℕ). IsConflict (lits_of new) clauses n) c.in_default.is c.in_ok-number.ensures.told in
    let passed = subst (λ (z : ℤ). ArePassed clauses lists pairs new z (length (list_at lists (code_of z)))) c.negated-lit.ensures told in
    let seen = subst (λ (xs : List Entry). AreGuarded clauses lists pairs xs new)
    (sym (take_extends head old new s.extends k.queue.within)) (s.guarded head k.guarded) in
    record {
      vars = c.go_through.ensures.vars ∙ k.vars;
      forced = s.forced;
      extends = Extends_trans c.args.trail.now.entries old new k.extends s.extends;
      laid = s.laid;
      queue = queue_see head new queue lt;
      guarded =
          are_guarded_see c.go_through.new.trail.vars clauses lists pairs new head e c.len-ordered.ensures.ordered there
          (queue_first head new e queue there) passed seen;
    }
