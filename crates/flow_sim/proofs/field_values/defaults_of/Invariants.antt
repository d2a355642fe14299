use Rattle.std.proofs.Common.{◌≡◌, take}
use Rattle.flow_graph.specs.Order.{defaults_of}
use Rattle.flow_sim.proofs.field_values.defaults_of.Given as goal

abbrev pub invariant-loop-field : goal.invariant-loop-field
invariant-loop-field l = l.values ≡ defaults_of (take l.field-index l.fields)
