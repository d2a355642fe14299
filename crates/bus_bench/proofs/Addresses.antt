-- Cells in the order of their addresses.
use Rattle.std.proofs.Common.{ℕ, ◌<◌, List}
use Rattle.mcu_jumps.specs.Position.{Position, IsCell, address_of}
use Rattle.field_decl.specs.Declaration.{Declaration}
use Rattle.bus_bench.specs.BadShift.{ShiftsUnmasked}
use Rattle.bus_bench.specs.Chip.{parts_at}

-- no cell below an address shifts with a mask
abbrev pub UnmaskedBelow : List ℕ → Declaration → ℕ → Type 0
UnmaskedBelow words decl a = (cell : Position) → IsCell cell → address_of cell < a → ShiftsUnmasked (parts_at words decl cell)
