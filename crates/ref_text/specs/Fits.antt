-- A line whose text is right: what its reader promises of it.

use Rattle.std.specs.Prelude.{ℕ, ◌<◌, ◌≤◌, ◌≢◌, length, All, AllPairs}
use Rattle.clause_base.specs.Lit.{var_of}
use Rattle.clause_base.specs.declared.line.Line.{Line}

-- its literals are of variables of the list, no variable comes twice, and its hints, of which there is one, are
-- numbers below its own
pub record IsRight (number vars : ℕ) (line : Line) : Type 0 where
  pub above : All (λ z. 0 < var_of z) line.clause
  pub in_range : All (λ z. var_of z ≤ vars) line.clause
  pub apart : AllPairs (λ a b. var_of a ≢ var_of b) line.clause
  pub some : 0 < length line.hints
  pub hints : All (λ hint. (0 < hint) × (hint < number)) line.hints
