use Rattle.prom_split.proofs.FieldBits.{Taken}
use Rattle.prom_split.proofs.field_bits.taken_values.Given as goal

-- the values so far, and those that the rest holds
abbrev pub invariant-loop-field : goal.invariant-loop-field
invariant-loop-field l = Taken l.fields l.fn.number l.values l.field-index l.rest
