use Rattle.propagate.specs.declared.pairs.Pair.{Pair}
use Rattle.propagate.proofs.Attached.{paired_laid, paired_true}
use Rattle.propagate.proofs.attaching.watch_none.Goals as goal

pub returns-clause-laid : goal.returns-clause-laid
returns-clause-laid c =
    let p : Pair = record { first = c.args.lit; second = c.args.lit } in
    paired_laid c.args.list.now.vars c.args.list.now.clauses c.args.watches.now.lists c.args.watches.now.pairs.items
    c.push.new.self.items p c.requires.laid c.requires.few
    (λ d there. (c.requires.within d there, c.requires.within d there)) c.in_ok-push.ensures.items

pub returns-clause-guarded : goal.returns-clause-guarded
returns-clause-guarded c =
    let p : Pair = record { first = c.args.lit; second = c.args.lit } in
    paired_true c.args.list.now.clauses c.args.watches.now.lists c.args.watches.now.pairs.items c.push.new.self.items p c.requires.few
    c.in_ok-push.ensures.items
