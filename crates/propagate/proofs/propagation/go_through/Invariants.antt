use Rattle.std.proofs.Common.{◌≡◌, ◌-◌, ◌≤◌, length, Some, false}
use Rattle.trail.specs.Assignment.{value_of}
use Rattle.propagate.specs.Lists.{list_at}
use Rattle.propagate.specs.Visits.{IsStep}
use Rattle.propagate.specs.Watching.{code_of, ArePassed}
use Rattle.propagate.proofs.propagation.go_through.Given as goal

abbrev pub invariant-clauses : goal.invariant-clauses
invariant-clauses l = record {
  vars : l.trail.vars ≡ l.list.vars;
  is_false : value_of l.lit l.trail.entries ≡ Some false;
  step : IsStep l.list.vars l.list.clauses l.initial.watches.lists l.watches.lists l.initial.watches.pairs.items l.watches.pairs.items
      l.initial.trail.entries l.trail.entries l.lit 0;
  passed : ArePassed l.list.clauses l.watches.lists l.watches.pairs.items l.trail.entries l.lit l.place;
  within : l.place ≤ length (list_at l.watches.lists (code_of l.lit));
}

abbrev pub decreases-clauses : goal.decreases-clauses
decreases-clauses l = length (list_at l.watches.lists (code_of l.lit)) - l.place
