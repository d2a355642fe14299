use Rattle.std.proofs.Common.{◌≡◌, ◌-◌, length}
use Rattle.propagate.specs.Attaching.{KeepsGuarded}
use Rattle.propagate.specs.Propagation.{Extends}
use Rattle.propagate.specs.Standing.{AreForced}
use Rattle.propagate.specs.Watching.{AreLaid}
use Rattle.propagate.proofs.attaching.attach_all.Given as goal

abbrev pub invariant-clauses : goal.invariant-clauses
invariant-clauses l = record {
  vars : l.trail.vars ≡ l.list.vars;
  forced : AreForced l.list.clauses l.trail.entries;
  extends : Extends l.initial.trail.entries l.trail.entries;
  laid : AreLaid l.list.vars l.list.clauses l.watches.lists l.watches.pairs.items;
  guarded : KeepsGuarded l.list.clauses l.initial.watches.lists l.watches.lists l.initial.watches.pairs.items l.watches.pairs.items
      l.initial.trail.entries l.trail.entries;
}

abbrev pub decreases-clauses : goal.decreases-clauses
decreases-clauses l = length l.list.clauses - length l.watches.pairs.items
