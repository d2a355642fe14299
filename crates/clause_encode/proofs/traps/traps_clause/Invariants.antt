use Rattle.std.proofs.Common.{◌≡◌, ◌+◌, length}
use Rattle.placement_clauses.specs.Upto.{upto, at_place}
use Rattle.placement_clauses.specs.Clauses.{trap_outcome}
use Rattle.clause_encode.proofs.traps.traps_clause.Given as goal

-- the place is in the targets to come
abbrev pub invariant-loop-outcome : goal.invariant-loop-outcome
invariant-loop-outcome l =
    length (upto l.outcome (at_place l.targets (trap_outcome l.labels l.kind l.first.label l.first.outcome))) + l.left ≡ l.place
