-- What a jump may test in the clock in which it is executed (the 3001's data sheet).
use Rattle.std.specs.Prelude.{ℕ, Bool}

-- the flags F, C and Z, the PR latch, and the value on PX7..PX4 (data sheet)
pub record Readings : Type 0 where
  pub f : Bool
  pub c : Bool
  pub z : Bool
  pub pr : ℕ
  pub px : ℕ
