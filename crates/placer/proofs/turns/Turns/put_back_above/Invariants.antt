use Rattle.std.proofs.Common.{◌≤◌, length}
use Rattle.placer.proofs.turns.Turns.put_back_above.Given as goal

abbrev pub invariant-back : goal.invariant-back
invariant-back l = l.place ≤ length l.trail.entries

abbrev pub decreases-back : goal.decreases-back
decreases-back l = l.place
