use Rattle.std.proofs.Common.{◌≡◌, ◌≤◌, ◌*◌, length}
use Rattle.placement_clauses.specs.Upto.{upto, at_place}
use Rattle.placement_clauses.specs.Clauses.{trap_outcome}
use Rattle.clause_encode.proofs.traps.traps_count.Given as goal

-- the targets so far
abbrev pub invariant-loop-target : goal.invariant-loop-target
invariant-loop-target l = record {
  count : length (upto l.target-index (at_place l.targets (trap_outcome l.labels l.kind l.first.label l.first.outcome))) ≡ l.count;
  few : l.count ≤ 1022 * l.target-index;
}
