use Rattle.std.proofs.Common.{◌≡◌, ◌+◌, ◌*◌, ◌≤◌, ◌++◌, length, drop}
use Rattle.std.specs.Prelude.{codes, decimal}
use Rattle.std.specs.List.{flat_map}
use Rattle.bus_script.proofs.trace_line.add_more_values.Given as goal

abbrev pub invariant-loop-value : goal.invariant-loop-value
invariant-loop-value l = record {
  so_far : l.line.items ++ flat_map (λ value. codes "," ++ decimal value) (drop l.value-index l.values) ≡ l.initial.line.items ++ flat_map
      (λ value. codes "," ++ decimal value) l.values;
  len : length l.line.items ≤ length l.initial.line.items + 11 * l.value-index;
}
