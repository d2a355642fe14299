use Rattle.std.proofs.Common.{◌≡◌, ◌-◌, ◌∙◌, ap, refl, arith}
use Rattle.flow_graph.specs.Graph.{graph_of}
use Rattle.flow_sim.specs.Flow.{FlowState, buses_for}
use Rattle.flow_sim.specs.TraceText.{text_from, flow_text}
use Rattle.flow_sim.proofs.TextSteps.{start_clock, written_none, written_all, text_none, goes_further, clock_written, clock_front, step_clock}
use Rattle.flow_sim.proofs.running.write_clocks.Goals as goal

pub returns-in-Err-clause-err : goal.returns-in-Err-clause-err
returns-in-Err-clause-err g c =
    clock_front (graph_of c.args.program.now)
    c.args.script.now c.args.clocks c.loop-clock._clock c.loop-clock.state c.next_trace_line.new.state c.as_slice.result.now
    (g.K.Sink.state c.args.sink.now) (g.K.Sink.state c.loop-clock.sink) (g.K.Sink.state c.put_all.new.sink)
    (flow_text (graph_of c.args.program.now) c.args.script.now c.args.clocks)
    c.loop-clock-test.true (c.as_slice.ensures.value ∙ c.next_trace_line.ensures.line)
    c.next_trace_line.ensures.state c.loop-clock.invariant.goes_on c.loop-clock.invariant.written c.in-Err.ensures.err

pub loop-clock-init : goal.loop-clock-init
loop-clock-init g c = record {
  written = written_none (g.K.Sink.state c.args.sink.now) (graph_of c.args.program.now)
      c.args.script.now c.args.clocks c.args.state.now c.requires.start;
  goes_on = record { later = omega arith; tells = refl };
  state = c.requires.fits;
  clock = ap (λ (s : FlowState). s.machine.clock) c.requires.start ∙ start_clock (graph_of c.args.program.now) c.args.script.now;
}

pub loop-clock-preserved : goal.loop-clock-preserved
loop-clock-preserved g c = record {
  written =
      clock_written (graph_of c.args.program.now)
      c.args.script.now c.args.clocks c.loop-clock._clock c.loop-clock.state c.next_trace_line.new.state c.as_slice.result.now
      (g.K.Sink.state c.args.sink.now) (g.K.Sink.state c.loop-clock.sink) (g.K.Sink.state c.put_all.new.sink)
      (flow_text (graph_of c.args.program.now) c.args.script.now c.args.clocks)
      c.loop-clock-test.true (c.as_slice.ensures.value ∙ c.next_trace_line.ensures.line)
      c.next_trace_line.ensures.state c.loop-clock.invariant.goes_on c.loop-clock.invariant.written c.in-Ok.ensures.ok;
  goes_on = goes_further (g.K.Sink.state c.args.sink.now) (g.K.Sink.state c.loop-clock.sink) (g.K.Sink.state c.put_all.new.sink)
      c.loop-clock.invariant.goes_on c.in-Ok.ensures.goes_on;
  state = c.next_trace_line.ensures.fits;
  clock = omega (
    arith,
    ap (λ (s : FlowState). s.machine.clock) c.next_trace_line.ensures.state,
    step_clock (graph_of c.args.program.now) c.loop-clock.state (buses_for c.args.script.now c.loop-clock.state),
    c.loop-clock.invariant.clock,
  );
}

pub returns-clause-ok : goal.returns-clause-ok
returns-clause-ok g c =
    let ended : c.args.clocks - c.loop-clock._clock ≡ 0 = omega (arith, c.loop-clock-test.false) in
    written_all (g.K.Sink.state c.args.sink.now) (g.K.Sink.state c.loop-clock.sink)
    (flow_text (graph_of c.args.program.now) c.args.script.now c.args.clocks)
    (text_from (graph_of c.args.program.now) c.args.script.now (c.args.clocks - c.loop-clock._clock) c.loop-clock.state)
    (rw ended (text_none (graph_of c.args.program.now) c.args.script.now c.loop-clock.state)) c.loop-clock.invariant.written
