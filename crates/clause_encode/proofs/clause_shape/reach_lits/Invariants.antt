use Rattle.std.proofs.Common.{◌≡◌, ◌∷◌}
use Rattle.placement_clauses.specs.Upto.{upto}
use Rattle.placement_clauses.specs.Number.{minus, row_var}
use Rattle.placement_clauses.specs.Clauses.{reach_lit}
use Rattle.clause_encode.proofs.clause_shape.reach_lits.Given as goal

-- the rows so far
abbrev pub invariant-loop-to : goal.invariant-loop-to
invariant-loop-to l = l.lits.items ≡ minus (row_var l.source l.row) ∷ upto l.to (reach_lit l.kind l.target l.row)
