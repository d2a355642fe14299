-- The sum over a flow, clock by clock.
use Rattle.std.proofs.Common.{◌≡◌, ℕ, suc, ◌+◌, ◌-◌, ◌<◌, refl, sym, ap, ◌∙◌, arith}
use Rattle.std.proofs.lemmas.List.Sums.{sum_by-cons}
use Rattle.flow_graph.specs.Graph.{Graph}
use Rattle.bus_script.specs.declared.buses.Buses.{Buses}
use Rattle.bus_script.specs.Script.{BusScript, buses_at}
use Rattle.flow_sim.specs.Flow.{FlowState, buses_for, flow_step, flow_view, flow_start, flow_from, flow_trace}
use Rattle.gen_case.specs.FlowSum.{sum_from, flow_sum}

-- no clocks have the sum 0
pub sum_none : (g : Graph) (script : BusScript) (s : FlowState) → sum_from g script 0 s ≡ 0
unfolding sum_from flow_from
sum_none g script s = refl

-- the first clock's D, and the others'
sum_step : (g : Graph) (script : BusScript) (n : ℕ) (s : FlowState)
    → sum_from g script (suc n) s ≡ (flow_view g s (buses_for script s)).regs.ac + sum_from g script n
    (flow_step g s (buses_for script s))
unfolding sum_from flow_from
sum_step g script n s =
    sum_by-cons (λ shown. shown.1.regs.ac) (s.place, flow_view g s (buses_for script s))
    (flow_from g script n (flow_step g s (buses_for script s)))

-- the whole sum is that from the start on
pub sum_is : (g : Graph) (script : BusScript) (n : ℕ) → flow_sum g script n ≡ sum_from g script n (flow_start g script)
unfolding flow_sum flow_trace sum_from
sum_is g script n = refl

-- one clock more is counted
pub one_counted : (g : Graph) (script : BusScript) (clocks k sum total : ℕ) (s : FlowState) (b : Buses) → k < clocks → s.machine.clock ≡ k
    → b ≡ buses_at script k
    → sum + sum_from g script (clocks - k) s ≡ total
    → sum + (flow_view g s b).regs.ac + sum_from g script (clocks - (k + 1)) (flow_step g s b) ≡ total
one_counted g script clocks k sum total s b before clock is_b so_far =
    let left : clocks - k ≡ suc (clocks - (k + 1)) = omega arith in
    let same : b ≡ buses_for script s = is_b ∙ ap (buses_at script) (sym clock) in
    let split = ap (λ (n : ℕ). sum_from g script n s) left ∙ sum_step g script (clocks - (k + 1)) s in
    rw same (omega (arith, so_far, split))
