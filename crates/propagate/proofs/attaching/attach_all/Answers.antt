use Rattle.std.proofs.Common.{◌∙◌}
use Rattle.propagate.proofs.Attached.{keeps_trans}
use Rattle.propagate.proofs.Extending.{Extends_trans}
use Rattle.propagate.proofs.attaching.attach_all.Goals as goal

pub returns-in_err-attach_next-clause-extends : goal.returns-in_err-attach_next-clause-extends
returns-in_err-attach_next-clause-extends c =
    Extends_trans c.args.trail.now.entries c.clauses.trail.entries c.attach_next.new.trail.entries c.clauses.invariant.extends
    c.attach_next.ensures.extends

pub returns-in_err-attach_next-clause-guarded : goal.returns-in_err-attach_next-clause-guarded
returns-in_err-attach_next-clause-guarded c =
    keeps_trans c.args.list.now.clauses c.args.watches.now.lists c.clauses.watches.lists c.attach_next.new.watches.lists
    c.args.watches.now.pairs.items c.clauses.watches.pairs.items c.attach_next.new.watches.pairs.items c.args.trail.now.entries
    c.clauses.trail.entries c.attach_next.new.trail.entries c.clauses.invariant.extends c.clauses.invariant.guarded
    c.attach_next.ensures.guarded

pub returns-then-not-branch-clause-extends : goal.returns-then-not-branch-clause-extends
returns-then-not-branch-clause-extends c =
    Extends_trans c.args.trail.now.entries c.clauses.trail.entries c.attach_next.new.trail.entries c.clauses.invariant.extends
    c.attach_next.ensures.extends

pub returns-then-not-branch-clause-guarded : goal.returns-then-not-branch-clause-guarded
returns-then-not-branch-clause-guarded c =
    keeps_trans c.args.list.now.clauses c.args.watches.now.lists c.clauses.watches.lists c.attach_next.new.watches.lists
    c.args.watches.now.pairs.items c.clauses.watches.pairs.items c.attach_next.new.watches.pairs.items c.args.trail.now.entries
    c.clauses.trail.entries c.attach_next.new.trail.entries c.clauses.invariant.extends c.clauses.invariant.guarded
    c.attach_next.ensures.guarded

pub clauses-preserved : goal.clauses-preserved
clauses-preserved c =
    let k = c.clauses.invariant in
    let e = c.attach_next.ensures in
    record {
      vars = e.vars ∙ k.vars;
      forced = e.forced;
      extends = Extends_trans c.args.trail.now.entries c.clauses.trail.entries c.attach_next.new.trail.entries k.extends e.extends;
      laid = e.laid;
      guarded =
          keeps_trans c.args.list.now.clauses c.args.watches.now.lists c.clauses.watches.lists c.attach_next.new.watches.lists
          c.args.watches.now.pairs.items c.clauses.watches.pairs.items c.attach_next.new.watches.pairs.items c.args.trail.now.entries
          c.clauses.trail.entries c.attach_next.new.trail.entries k.extends k.guarded e.guarded;
    }
