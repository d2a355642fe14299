use Rattle.std.proofs.Common.{◌≡◌, take}
use Rattle.flow_graph.specs.Order.{defaults_of}
use Rattle.prom_split.proofs.field_bits.defaults_of.Given as goal

-- the defaults of the fields so far
abbrev pub invariant-loop-field : goal.invariant-loop-field
invariant-loop-field l = l.values ≡ defaults_of (take l.field-index l.fields)
