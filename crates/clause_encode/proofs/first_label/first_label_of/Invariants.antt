use Rattle.std.proofs.Common.{◌≡◌, ◌<◌, ℕ, Some, None}
use Rattle.std.specs.Prelude.{slice_get}
use Rattle.clause_encode.proofs.first_label.first_label_of.Given as goal

-- the targets so far are the trap
abbrev pub invariant-loop-outcome : goal.invariant-loop-outcome
invariant-loop-outcome l = (k : ℕ) → k < l.outcome → slice_get l.targets k ≡ Some None
