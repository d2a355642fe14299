use Rattle.std.proofs.Common.{◌≡◌, ◌+◌, ◌≤◌, drop, take}
use Rattle.std.specs.Prelude.{All}
use Rattle.refute_check.specs.Known.{IsKnown, Agrees}
use Rattle.refute_check.specs.Cost.{hints_cost}
use Rattle.refute_check.proofs.asking.ask_all.Given as goal

abbrev pub invariant-loop-hint : goal.invariant-loop-hint
invariant-loop-hint g l = record {
  list : g.P.ClauseSource.list l.source ≡ g.P.ClauseSource.list l.initial.source;
  derived : l.known.derived ≡ l.initial.known.derived;
  known : IsKnown (g.P.ClauseSource.list l.initial.source) l.known (g.P.ClauseSource.given l.source);
  agree : All (Agrees (g.P.ClauseSource.list l.initial.source) l.known) (take l.hint-index l.hints);
  given : g.P.ClauseSource.given l.source + hints_cost (g.P.ClauseSource.list l.initial.source).clauses (drop l.hint-index l.hints)
      ≤ g.P.ClauseSource.given l.initial.source + hints_cost (g.P.ClauseSource.list l.initial.source).clauses l.hints;
}
