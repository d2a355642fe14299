use Rattle.std.proofs.Common.{◌≡◌, ◌≤◌, ◌+◌, ◌-◌, ◌^◌}
use Rattle.refute_check.specs.Judging.{spot_of, Stands}
use Rattle.refute_check.proofs.TakenLemmas.{IsJudged}
use Rattle.refute_check.proofs.files.check_lines.Given as goal

abbrev pub invariant-pieces : goal.invariant-pieces
invariant-pieces g l = record {
  within : l.at ≤ 2 ^ 43;
  list : g.P.ClauseSource.list l.source ≡ g.P.ClauseSource.list l.initial.source;
  stands : Stands (g.P.ClauseSource.list l.initial.source) l.judge (g.P.ClauseSource.given l.source);
  judged : IsJudged (g.P.ClauseSource.list l.initial.source) (g.S.Shelf.state l.initial.shelf) (g.S.Shelf.state l.shelf) l.name
      (g.P.ClauseSource.given l.initial.source) l.at (spot_of l.judge) (g.P.ClauseSource.given l.source);
}

abbrev pub decreases-pieces : goal.decreases-pieces
decreases-pieces g l = 2 ^ 43 + 1 - l.at
