use Rattle.std.proofs.Common.{◌≡◌, ℕ, ◌^◌, ◌<◌}
use Rattle.std.specs.List.{All}
use Rattle.bus_script.specs.ScriptFits.{IsScriptFor}
use Rattle.flow_sim.specs.Machine.{first_words}
use Rattle.flow_sim.proofs.machine.start_memory.Given as goal

abbrev pub invariant-loop-address : goal.invariant-loop-address
invariant-loop-address l = record {
  words : l.memory.items ≡ first_words l.script l.address;
  fits : (slices : ℕ) → IsScriptFor slices l.script → All (λ word. word < 4 ^ slices) l.memory.items;
}
