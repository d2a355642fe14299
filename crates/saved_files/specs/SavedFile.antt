-- A file that is to be saved. This project's own choice.
use Rattle.std.specs.Prelude.{ℕ, List}

-- a file that is to be saved
pub record SavedFile : Type 0 where
  pub name : List ℕ
  pub bytes : List ℕ
