use Rattle.std.proofs.Common.{◌≡◌, ◌+◌, length}
use Rattle.placement_clauses.specs.Upto.{upto, at_place}
use Rattle.placement_clauses.specs.Clauses.{target_clauses}
use Rattle.clause_encode.proofs.test_targets.targets_clause.Given as goal

-- the place is in the targets to come
abbrev pub invariant-loop-outcome : goal.invariant-loop-outcome
invariant-loop-outcome l =
    length (upto l.outcome (at_place l.targets (target_clauses l.kind l.source l.first.outcome l.first.label))) + l.left ≡ l.place
