-- Each clock of the flow adds its D.
use Rattle.std.proofs.Common.{◌≡◌, ℕ, ◌+◌, ◌-◌, ◌∙◌, ap, sym, arith}
use Rattle.flow_graph.specs.Graph.{graph_of}
use Rattle.flow_sim.specs.Flow.{FlowState, flow_view}
use Rattle.flow_sim.proofs.TextSteps.{start_clock, step_clock}
use Rattle.gen_case.specs.FlowSum.{sum_from, flow_sum}
use Rattle.gen_case.proofs.SumSteps.{sum_none, sum_is, one_counted}
use Rattle.gen_case.proofs.sums.flow_sum.Goals as goal

pub loop-clock-init : goal.loop-clock-init
loop-clock-init c =
    let g = graph_of c.args.program.now in
    let script = c.args.script.now in
    let all : c.args.clocks - 0 ≡ c.args.clocks = omega arith in
    let begun = ap (λ (s : FlowState). sum_from g script c.args.clocks s) c.in_ok-state.ensures.start
    ∙ sym (sum_is g script c.args.clocks) in
    record {
      counted = omega (arith, ap (λ (n : ℕ). sum_from g script n c.in_ok-state.state) all, begun);
      state = c.in_ok-state.ensures.fits;
      clock = ap (λ (s : FlowState). s.machine.clock) c.in_ok-state.ensures.start ∙ start_clock g script;
      small = omega arith;
    }

pub loop-clock-preserved : goal.loop-clock-preserved
loop-clock-preserved c =
    let g = graph_of c.args.program.now in
    let script = c.args.script.now in
    let step = c.flow_step-view in
    let counted =
    one_counted g script c.args.clocks c.loop-clock.clock c.loop-clock.sum (flow_sum g script c.args.clocks)
    c.loop-clock.state c.at.result c.loop-clock-test.true c.loop-clock.invariant.clock c.at.ensures.exact
    c.loop-clock.invariant.counted in
    record {
      counted =
          ap (λ (n : ℕ). c.loop-clock.sum + n + sum_from g script (c.args.clocks - (c.loop-clock.clock + 1)) step.new.state)
          (ap (λ v. v.regs.ac) step.ensures.view)
          ∙ ap (λ (s : FlowState). c.loop-clock.sum + (flow_view g c.loop-clock.state c.at.result).regs.ac + sum_from g script
          (c.args.clocks - (c.loop-clock.clock + 1)) s) step.ensures.state
          ∙ counted;
      state = step.ensures.fits;
      clock = omega (
        arith,
        ap (λ (s : FlowState). s.machine.clock) step.ensures.state,
        step_clock g c.loop-clock.state c.at.result,
        c.loop-clock.invariant.clock,
      );
      small = omega arith;
    }

pub returns : goal.returns
returns c =
    let g = graph_of c.args.program.now in
    let script = c.args.script.now in
    let ended : c.args.clocks - c.loop-clock.clock ≡ 0 = omega (arith, c.loop-clock-test.false) in
    let none = ap (λ (n : ℕ). sum_from g script n c.loop-clock.state) ended ∙ sum_none g script c.loop-clock.state in
    omega (arith, c.loop-clock.invariant.counted, none)
