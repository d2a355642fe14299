use Rattle.std.proofs.Common.{◌≡◌, [], sym, arith}
use Rattle.std.proofs.lemmas.List.{append-nil}
use Rattle.trail.specs.Assignment.{level_of}
use Rattle.propagate.proofs.Attached.{keeps_good, good_at_zero}
use Rattle.propagate.proofs.attaching.attach_true.Goals as goal

pub returns-in_err-watch_none-clause-guarded : goal.returns-in_err-watch_none-clause-guarded
returns-in_err-watch_none-clause-guarded c =
    let es = c.args.trail.now.entries in
    let bottom : level_of es ≡ 0 = omega (arith, c.level.ensures.level, c.if-level-gt0.false) in
    keeps_good c.args.list.now.clauses c.args.watches.now.lists c.watch_none.new.watches.lists c.args.watches.now.pairs.items
    c.watch_none.new.watches.pairs.items es es [] c.args.clause.now c.watch_none.ensures.guarded c.watch_none.ensures.lists
    (sym (append-nil es)) c.requires.there
    (good_at_zero c.args.trail.now.vars es c.args.clause.now c.level.ensures.ordered bottom
    (record { place = c.requires.within.place; lit = c.args.lit; there = c.requires.within.there; holds = c.requires.holds }))

pub returns-clause-guarded : goal.returns-clause-guarded
returns-clause-guarded c =
    let es = c.args.trail.now.entries in
    let bottom : level_of es ≡ 0 = omega (arith, c.level.ensures.level, c.if-level-gt0.false) in
    keeps_good c.args.list.now.clauses c.args.watches.now.lists c.watch_none.new.watches.lists c.args.watches.now.pairs.items
    c.watch_none.new.watches.pairs.items es es [] c.args.clause.now c.watch_none.ensures.guarded c.watch_none.ensures.lists
    (sym (append-nil es)) c.requires.there
    (good_at_zero c.args.trail.now.vars es c.args.clause.now c.level.ensures.ordered bottom
    (record { place = c.requires.within.place; lit = c.args.lit; there = c.requires.within.there; holds = c.requires.holds }))
