-- What a source of clauses means.
use Rattle.std.specs.Prelude.{◌<◌, ◌^◌, length, All}
use Rattle.clause_base.specs.Clauses.{Clauses, IsClause}

-- each clause is one over the list's variables, so none holds a literal twice, and none has 2^32 literals or more
pub record AreGivable (list : Clauses) : Type 0 where
  pub valid : All (IsClause list.vars) list.clauses
  pub short : All (λ clause. length clause < 2 ^ 32) list.clauses
