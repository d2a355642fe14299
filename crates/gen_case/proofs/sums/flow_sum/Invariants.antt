-- What is summed and what is left are the whole.
use Rattle.std.proofs.Common.{◌≡◌, ◌+◌, ◌-◌, ◌*◌, ◌^◌, ◌≤◌}
use Rattle.flow_graph.specs.Graph.{graph_of}
use Rattle.flow_sim.specs.Flow.{IsStateOf}
use Rattle.gen_case.specs.FlowSum.{sum_from, flow_sum}
use Rattle.gen_case.proofs.sums.flow_sum.Given as goal

abbrev pub invariant-loop-clock : goal.invariant-loop-clock
invariant-loop-clock l = record {
  counted : l.sum + sum_from (graph_of l.program) l.script (l.clocks - l.clock) l.state ≡ flow_sum (graph_of l.program) l.script l.clocks;
  state : IsStateOf (graph_of l.program) l.state;
  clock : l.state.machine.clock ≡ l.clock;
  small : l.sum ≤ l.clock * 2 ^ 32;
}
