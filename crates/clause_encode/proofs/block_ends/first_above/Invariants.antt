use Rattle.std.proofs.Common.{◌-◌, ◌<◌, ◌≤◌, length, get_or}
use Rattle.clause_encode.proofs.block_ends.first_above.Given as goal

-- the place is between the numbers before `first` and that at `last`
abbrev pub invariant-loop-first : goal.invariant-loop-first
invariant-loop-first l = record {
  ordered : l.first ≤ l.last;
  within : l.last < length l.ends;
  before : 0 < l.first → get_or l.ends (l.first - 1) 0 ≤ l.place;
  above : l.place < get_or l.ends l.last 0;
}

abbrev pub decreases-loop-first : goal.decreases-loop-first
decreases-loop-first l = l.last - l.first
