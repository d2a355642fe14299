use Rattle.std.proofs.Common.{◌≡◌, ◌≤◌, ◌*◌, ℕ, length}
use Rattle.placement_clauses.specs.Upto.{upto, at_place}
use Rattle.placement_clauses.specs.Clauses.{target_clauses}
use Rattle.clause_encode.proofs.test_targets.targets_count.Given as goal

-- the targets so far
abbrev pub invariant-loop-outcome : goal.invariant-loop-outcome
invariant-loop-outcome l = record {
  count : (s : ℕ) → length (upto l.outcome (at_place l.targets (target_clauses l.kind s l.first.outcome l.first.label))) ≡ l.count;
  few : l.count ≤ 48 * l.outcome;
}
