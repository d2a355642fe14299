use Rattle.std.proofs.Common.{◌≡◌, drop}
use Rattle.std.specs.Prelude.{find}
use Rattle.std.specs.Str.{bytes_eq}
use Rattle.micro_asm.proofs.mnemonics.find_row.Given as goal

abbrev pub invariant-loop-row : goal.invariant-loop-row
invariant-loop-row l = find (λ row. bytes_eq l.name row.name) (drop l.row-index l.rows) ≡ find (λ row. bytes_eq l.name row.name) l.rows
