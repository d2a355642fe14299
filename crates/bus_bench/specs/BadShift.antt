-- The words on which the bench does not run: the right shift is modelled for a K bus of 0 alone (this project's own
-- choice).
use Rattle.std.specs.Prelude.{ℕ, ◌≡◌, ◌≢◌, ◌<◌, List, IsTrue}
use Rattle.mcu_jumps.specs.Position.{Position, IsCell, address_of}
use Rattle.cpe_slice.specs.FunctionCode.{is_shift}
use Rattle.field_decl.specs.Declaration.{Declaration}
use Rattle.prom_split.specs.declared.word_parts.WordParts.{WordParts}
use Rattle.bus_bench.specs.Chip.{parts_at}

-- the K bits are 0 where a word orders the right shift
abbrev pub ShiftsUnmasked : WordParts → Type 0
ShiftsUnmasked parts = IsTrue (is_shift parts.func) → parts.kbits ≡ 0

-- the parts order the right shift with K bits other than 0
abbrev pub ShiftsMasked : WordParts → Type 0
ShiftsMasked parts = IsTrue (is_shift parts.func) × (parts.kbits ≢ 0)

-- the first cell, in the order of the addresses, whose word orders the right shift with K bits other than 0
pub record IsFirstBadShift (words : List ℕ) (decl : Declaration) (cell : Position) : Type 0 where
  pub in_matrix : IsCell cell
  pub masked : ShiftsMasked (parts_at words decl cell)
  pub first : (earlier : Position) → IsCell earlier → address_of earlier < address_of cell → ShiftsUnmasked (parts_at words decl earlier)
