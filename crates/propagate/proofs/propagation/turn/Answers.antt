use Rattle.std.proofs.Common.{◌≡◌, ℕ, List, length, take, sym, subst, ◌∙◌, arith}
use Rattle.std.proofs.lemmas.Option.{MatchOption-at_none}
use Rattle.clause_base.specs.Truth.{lits_of, IsConflict}
use Rattle.clause_base.specs.declared.entry.Entry.{Entry}
use Rattle.trail.specs.Assignment.{IsTrail}
use Rattle.propagate.specs.Watching.{AreGuarded}
use Rattle.propagate.proofs.Extending.{Extends_trans}
use Rattle.propagate.proofs.Guarding.{queue_extends, are_guarded_append}
use Rattle.propagate.proofs.Steps.{take_extends}
use Rattle.propagate.proofs.Turning.{turned}
use Rattle.propagate.proofs.propagation.turn.Goals as goal

pub returns-in_err-attach_all-clause-queue : goal.returns-in_err-attach_all-clause-queue
returns-in_err-attach_all-clause-queue c =
    queue_extends c.args.head.now c.args.trail.now.entries c.attach_all.new.trail.entries c.attach_all.ensures.extends c.requires.queue

pub returns-in_err-attach_all-clause-guarded : goal.returns-in_err-attach_all-clause-guarded
returns-in_err-attach_all-clause-guarded c =
    subst (λ (seen : List Entry). AreGuarded c.args.list.now.clauses c.attach_all.new.watches.lists
    c.attach_all.new.watches.pairs.items seen c.attach_all.new.trail.entries)
    (sym (take_extends c.args.head.now c.args.trail.now.entries c.attach_all.new.trail.entries c.attach_all.ensures.extends
    c.requires.queue.within))
    (c.attach_all.ensures.guarded c.args.head.now c.requires.guarded)

pub run_queue-requires-clause-queue : goal.run_queue-requires-clause-queue
run_queue-requires-clause-queue c =
    queue_extends c.args.head.now c.args.trail.now.entries c.attach_all.new.trail.entries c.attach_all.ensures.extends c.requires.queue

pub run_queue-requires-clause-guarded : goal.run_queue-requires-clause-guarded
run_queue-requires-clause-guarded c =
    subst (λ (seen : List Entry). AreGuarded c.args.list.now.clauses c.attach_all.new.watches.lists
    c.attach_all.new.watches.pairs.items seen c.attach_all.new.trail.entries)
    (sym (take_extends c.args.head.now c.args.trail.now.entries c.attach_all.new.trail.entries c.attach_all.ensures.extends
    c.requires.queue.within))
    (c.attach_all.ensures.guarded c.args.head.now c.requires.guarded)

pub returns-in_err-number-clause-extends : goal.returns-in_err-number-clause-extends
returns-in_err-number-clause-extends c =
    Extends_trans c.args.trail.now.entries c.attach_all.new.trail.entries c.run_queue.new.trail.entries c.attach_all.ensures.extends
    c.run_queue.ensures.extends

pub returns-in-Some-clause-extends : goal.returns-in-Some-clause-extends
returns-in-Some-clause-extends c =
    Extends_trans c.args.trail.now.entries c.attach_all.new.trail.entries c.run_queue.new.trail.entries c.attach_all.ensures.extends
    c.run_queue.ensures.extends

pub returns-clause-extends : goal.returns-clause-extends
returns-clause-extends c =
    Extends_trans c.args.trail.now.entries c.run_queue.new.trail.entries c.scan_from.new.trail.entries
    (Extends_trans c.args.trail.now.entries c.attach_all.new.trail.entries c.run_queue.new.trail.entries c.attach_all.ensures.extends
    c.run_queue.ensures.extends) c.scan_from.ensures.extends

pub returns-clause-queue : goal.returns-clause-queue
returns-clause-queue c =
    queue_extends c.run_queue.new.head c.run_queue.new.trail.entries c.scan_from.new.trail.entries c.scan_from.ensures.extends
    c.run_queue.ensures.queue

pub returns-clause-guarded : goal.returns-clause-guarded
returns-clause-guarded c =
    let clauses = c.args.list.now.clauses in
    let lists = c.run_queue.new.watches.lists in
    let pairs = c.run_queue.new.watches.pairs.items in
    let head = c.run_queue.new.head in
    let mid = c.run_queue.new.trail.entries in
    let new = c.scan_from.new.trail.entries in
    let x = c.scan_from.ensures.extends in
    subst (λ (seen : List Entry). AreGuarded clauses lists pairs seen new)
    (sym (take_extends head mid new x c.run_queue.ensures.queue.within))
    (subst (λ (es : List Entry). AreGuarded clauses lists pairs (take head mid) es) (sym x.split)
    (are_guarded_append clauses lists pairs (take head mid) mid x.added c.run_queue.ensures.guarded))

pub returns-clause-told : goal.returns-clause-told
returns-clause-told c =
    let mid = c.run_queue.new.trail.entries in
    let clauses = c.args.list.now.clauses in
    let all : c.run_queue.new.head ≡ length mid =
    MatchOption-at_none (c.run_queue.new.head ≡ length mid)
    (λ (n : ℕ). IsConflict (lits_of mid) clauses n) c.in_default.is c.in_ok-number.ensures.told in
    let from : c.len.result ≡ length c.run_queue.new.watches.pairs.items =
    omega (arith, c.len.ensures, c.run_queue.new.watches.pairs.ok) in
    let vars : c.run_queue.new.trail.vars ≡ c.args.list.now.vars = c.run_queue.ensures.vars ∙ c.attach_all.ensures.vars
    ∙ c.requires.vars in
    turned c.args.list.now.vars clauses c.run_queue.new.watches.lists c.run_queue.new.watches.pairs.items c.args.trail.now.entries mid
    c.scan_from.new.trail.entries c.run_queue.new.head c.len.result
    (subst (λ (v : ℕ). IsTrail v mid) vars c.len-ordered.ensures.ordered) c.run_queue.ensures.laid c.run_queue.ensures.guarded all from
    (Extends_trans c.args.trail.now.entries c.attach_all.new.trail.entries mid c.attach_all.ensures.extends
    c.run_queue.ensures.extends) c.scan_from.result c.scan_from.ensures.told
