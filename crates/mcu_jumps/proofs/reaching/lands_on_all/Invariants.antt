use Rattle.std.proofs.Common.{◌≡◌, ◌<◌, ℕ, Some, slice_get}
use Rattle.mcu_jumps.specs.Position.{Position}
use Rattle.mcu_jumps.specs.NextAddress.{lands}
use Rattle.mcu_jumps.proofs.reaching.lands_on_all.Given as goal

-- each given target so far is where its outcome lands
abbrev pub invariant-loop-outcome : goal.invariant-loop-outcome
invariant-loop-outcome l =
    (o : ℕ) (cell : Position) → o < l.outcome → slice_get l.targets o ≡ Some (Some cell) → lands l.from l.jump o ≡ cell
