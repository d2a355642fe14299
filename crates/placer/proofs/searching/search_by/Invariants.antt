use Rattle.std.proofs.Common.{◌≤◌, ◌+◌, ◌-◌, ◌*◌, length}
use Rattle.placer.specs.Progress.{HasHints}
use Rattle.placer.specs.Ready.{IsReady}
use Rattle.placer.proofs.searching.search_by.Given as goal

abbrev pub invariant-turns : goal.invariant-turns
invariant-turns l = record {
  learned : HasHints l.fn.list l.board l.hints.items;
  few : length l.hints.items ≤ l.budget;
  ready : IsReady l.board.list.vars l.board.trail.entries l.workspace;
}

abbrev pub decreases-turns : goal.decreases-turns
decreases-turns l = (l.budget - length l.hints.items) * (l.board.trail.vars + 3) + (l.board.trail.vars + 2 - length l.board.trail.entries)
