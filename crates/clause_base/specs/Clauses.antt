-- What a contract sees of a list of clauses.

use Rattle.std.specs.Prelude.{ℕ, ℤ, ◌<◌, ◌≤◌, ◌≢◌, List, All, AllPairs}
use Rattle.clause_base.specs.Lit.{var_of}

-- clauses over the variables 1 to `vars`; the first has number 1
pub record Clauses : Type 0 where
  pub vars : ℕ
  pub clauses : List (List ℤ)

-- a clause over these variables: no literal comes twice, though a literal may stand beside its negation
pub record IsClause (vars : ℕ) (clause : List ℤ) : Type 0 where
  pub above : All (λ z. 0 < var_of z) clause
  pub in_range : All (λ z. var_of z ≤ vars) clause
  pub once : AllPairs (λ a b. a ≢ b) clause
