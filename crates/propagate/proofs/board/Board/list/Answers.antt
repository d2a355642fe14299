use Rattle.std.proofs.Common.{subst}
use Rattle.std.specs.Prelude.{All}
use Rattle.clause_base.specs.Clauses.{IsClause}
use Rattle.propagate.specs.Standing.{Standing}
use Rattle.propagate.proofs.board.Board.list.Goals as goal

pub returns-clause-valid : goal.returns-clause-valid
returns-clause-valid c =
    subst (λ (b : Standing). All (IsClause b.list.vars) b.list.clauses) c.self.view_is c.vars-vars.ensures.valid
