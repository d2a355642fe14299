use Rattle.std.proofs.Common.{◌≡◌}
use Rattle.placement_clauses.specs.Shape.{any_of}
use Rattle.clause_encode.proofs.clause_shape.any_lits.Given as goal

abbrev pub invariant-loop-k : goal.invariant-loop-k
invariant-loop-k l = l.lits.items ≡ any_of l.k l.first
