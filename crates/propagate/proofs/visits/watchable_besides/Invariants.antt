use Rattle.std.proofs.Common.{◌≡◌, ◌⊎◌, ℤ, take, Some, false}
use Rattle.std.specs.Prelude.{All}
use Rattle.trail.specs.Assignment.{value_of}
use Rattle.propagate.proofs.visits.watchable_besides.Given as goal

abbrev pub invariant-loop-lit : goal.invariant-loop-lit
invariant-loop-lit l = All (λ (z : ℤ). (z ≡ l.other) ⊎ (value_of z l.trail.entries ≡ Some false)) (take l.lit-index l.clause)
