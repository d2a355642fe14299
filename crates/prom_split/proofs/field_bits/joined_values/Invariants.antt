use Rattle.prom_split.proofs.FieldBits.{Turned}
use Rattle.prom_split.proofs.field_bits.joined_values.Given as goal

-- the number is that of the values from here on
abbrev pub invariant-loop-place : goal.invariant-loop-place
invariant-loop-place l = Turned l.fields l.values l.place l.number
