-- The calls of one kind on an object in memory, and those of them that are to fail.
use Rattle.std.specs.Prelude.{ℕ, ◌≡◌, List, [], ◌∷◌, ◌++◌, Contains}
use Rattle.io_base.specs.Causes.{counted}

-- calls of one kind
pub record Calls : Type 0 where
  -- how many were made
  pub made : ℕ
  -- the numbers of those that are to fail; the first call has number 1
  pub to_fail : List ℕ

-- the next call is to fail
abbrev pub FailsNext : Calls → Type 0
FailsNext calls = Contains calls.to_fail (counted calls.made 1)

-- one more call was made
pub record CountsCall (old new : Calls) : Type 0 where
  pub made : new.made ≡ counted old.made 1
  pub to_fail : new.to_fail ≡ old.to_fail

-- one more call is to fail
pub record PlansFault (old new : Calls) (number : ℕ) : Type 0 where
  pub made : new.made ≡ old.made
  pub to_fail : new.to_fail ≡ old.to_fail ++ number ∷ []

-- no call was made, and none is to fail
pub record IsUncalled (calls : Calls) : Type 0 where
  pub made : calls.made ≡ 0
  pub to_fail : calls.to_fail ≡ []
