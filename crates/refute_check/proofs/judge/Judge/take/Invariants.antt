use Rattle.std.proofs.Common.{◌≡◌, ◌≤◌, ◌-◌, length, take}
use Rattle.refute_check.specs.Judging.{spot_of, Stands, Goes}
use Rattle.refute_check.proofs.judge.Judge.take.Given as goal

abbrev pub invariant-lines : goal.invariant-lines
invariant-lines g l = record {
  within : l.at ≤ length l.piece;
  list : g.P.ClauseSource.list l.source ≡ g.P.ClauseSource.list l.initial.source;
  stands : Stands (g.P.ClauseSource.list l.initial.source) l.self (g.P.ClauseSource.given l.source);
  goes : Goes (g.P.ClauseSource.list l.initial.source) (spot_of l.initial.self) (g.P.ClauseSource.given l.initial.source)
      (take l.at l.piece) (spot_of l.self) (g.P.ClauseSource.given l.source);
}

abbrev pub decreases-lines : goal.decreases-lines
decreases-lines g l = length l.piece - l.at
