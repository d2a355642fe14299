use Rattle.std.proofs.Common.{◌≡◌, ◌≤◌, ◌<◌, ◌-◌, ℕ, Some}
use Rattle.std.specs.Prelude.{slice_get}
use Rattle.clause_base.specs.declared.entry.Entry.{Entry}
use Rattle.placer.proofs.conflict_analysis.end_of_level_zero.Given as goal

abbrev pub invariant-halving : goal.invariant-halving
invariant-halving l = record {
  order : l.low ≤ l.high;
  within : l.high ≤ l.end;
  begun : (i : ℕ) (e : Entry) → l.high ≤ i → slice_get l.board.trail.entries i ≡ Some e → 0 < e.level;
}

abbrev pub decreases-halving : goal.decreases-halving
decreases-halving l = l.high - l.low
