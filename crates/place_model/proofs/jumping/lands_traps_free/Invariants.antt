use Rattle.std.proofs.Common.{◌≡◌, ◌<◌, ℕ, Some, None, slice_get}
use Rattle.mcu_jumps.specs.NextAddress.{lands}
use Rattle.place_model.specs.Cells.{IsAt}
use Rattle.place_model.proofs.jumping.lands_traps_free.Given as goal

-- the outcomes so far that lead to the trap land on free cells
abbrev pub invariant-loop-outcome : goal.invariant-loop-outcome
invariant-loop-outcome l =
    (outcome : ℕ) → outcome < l.outcome → slice_get l.targets outcome ≡ Some None → IsAt l.placement None (lands l.from l.jump outcome)
