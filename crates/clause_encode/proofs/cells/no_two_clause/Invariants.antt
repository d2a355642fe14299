use Rattle.std.proofs.Common.{◌≡◌, ◌+◌, length}
use Rattle.placement_clauses.specs.Upto.{upto}
use Rattle.placement_clauses.specs.Shape.{not_with_later}
use Rattle.clause_encode.proofs.cells.no_two_clause.Given as goal

abbrev pub invariant-loop-earlier : goal.invariant-loop-earlier
invariant-loop-earlier l = length (upto l.earlier (not_with_later l.count l.first)) + l.left ≡ l.place
