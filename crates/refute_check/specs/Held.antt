-- The literals that hold while a line is judged.

use Rattle.std.specs.Prelude.{ℕ, ℤ, List}

-- literals that hold, over so many variables
pub record Held : Type 0 where
  pub vars : ℕ
  pub held : List ℤ
