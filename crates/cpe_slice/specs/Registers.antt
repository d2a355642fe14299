-- The thirteen registers of the 3002, after Intel's data sheet. Each holds a whole number, so that one
-- definition serves a slice of two bits and an array of any number of slices.
use Rattle.std.specs.Prelude.{ℕ, List, length, ◌≡◌, ◌<◌, All, slice_index, slice_set}
use Rattle.cpe_slice.specs.declared.register.Reg.{Reg}
use Rattle.cpe_slice.specs.declared.register.Reg.TheVariants.{R, T, Ac}

-- what R0 to R9, T, AC and MAR hold
pub record Registers : Type 0 where
  pub r : List ℕ
  pub t : ℕ
  pub ac : ℕ
  pub mar : ℕ

-- there are ten registers R, and every register is below the limit
pub record AllBelow (limit : ℕ) (registers : Registers) : Type 0 where
  pub ten : length registers.r ≡ 10
  pub r : All (λ x. x < limit) registers.r
  pub t : registers.t < limit
  pub ac : registers.ac < limit
  pub mar : registers.mar < limit

-- what a named register holds
abbrev pub get : Registers → Reg → ℕ
get registers (R number) = slice_index registers.r number
get registers T = registers.t
get registers Ac = registers.ac

-- the registers where the named one holds a value, and the others what they held
abbrev pub set : Registers → Reg → ℕ → Registers
set registers (R number) value = record registers { r = slice_set registers.r number value }
set registers T value = record registers { t = value }
set registers Ac value = record registers { ac = value }
