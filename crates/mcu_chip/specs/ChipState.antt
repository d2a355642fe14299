-- What the 3001 holds between two clocks (data sheet).
use Rattle.std.specs.Prelude.{ℕ, ◌<◌, Bool}
use Rattle.mcu_jumps.specs.Position.{Position, IsCell}

-- the present cell, the flags F, C and Z, and the PR latch
pub record ChipState : Type 0 where
  pub cell : Position
  pub f : Bool
  pub c : Bool
  pub z : Bool
  pub pr : ℕ

-- the cell is one of the matrix, and the latch has four bits (data sheet)
pub record IsChipState (s : ChipState) : Type 0 where
  pub cell : IsCell s.cell
  pub pr : s.pr < 16
