-- A place in the address matrix of the 3001 (data sheet).
use Rattle.std.specs.Prelude.{ℕ, ◌+◌, ◌*◌, ◌<◌}

-- a row and a column
pub record Position : Type 0 where
  pub row : ℕ
  pub col : ℕ

-- the place is a cell of the matrix, which has 32 rows and 16 columns (data sheet)
pub record IsCell (p : Position) : Type 0 where
  pub row : p.row < 32
  pub col : p.col < 16

-- the microprogram address: the row on MA8..MA4, the column on MA3..MA0 (data sheet)
abbrev pub address_of : Position → ℕ
address_of p = 16 * p.row + p.col
