-- What a case is told by: a sum over its symbolic flow (this project's own choice).
use Rattle.std.specs.Prelude.{ℕ, sum_by}
use Rattle.flow_graph.specs.Graph.{Graph}
use Rattle.bus_script.specs.Script.{BusScript}
use Rattle.flow_sim.specs.Flow.{FlowState, flow_from, flow_trace}

-- the sum of the D values, those of AC, of so many clocks of a program from a state on
unfoldable pub sum_from : Graph → BusScript → ℕ → FlowState → ℕ
sum_from g script clocks state = sum_by (λ shown. shown.1.regs.ac) (flow_from g script clocks state)

-- the sum of the D values of the first so many clocks of a program
unfoldable pub flow_sum : Graph → BusScript → ℕ → ℕ
flow_sum g script clocks = sum_by (λ shown. shown.1.regs.ac) (flow_trace g script clocks)
