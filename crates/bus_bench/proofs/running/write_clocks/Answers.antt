use Rattle.std.proofs.Common.{◌≡◌, ◌-◌, ◌∙◌, ap, arith}
use Rattle.field_decl.specs.Decls.{declaration_of}
use Rattle.flow_sim.proofs.TextSteps.{written_all, goes_further}
use Rattle.bus_bench.specs.Chip.{BenchState, buses_for, text_from}
use Rattle.bus_bench.proofs.ClockSteps.{step_clock}
use Rattle.bus_bench.proofs.TextSteps.{text_none, clock_written, clock_front}
use Rattle.bus_bench.proofs.running.write_clocks.Goals as goal

pub returns-in-Err-clause-err : goal.returns-in-Err-clause-err
returns-in-Err-clause-err g c =
    clock_front c.args.words.now (declaration_of c.args.decl.now)
    c.args.script.now c.args.clocks c.loop-clock.clock c.loop-clock.bench c.next_trace_line.new.bench c.as_slice.result.now
    (g.K.Sink.state c.args.sink.now) (g.K.Sink.state c.loop-clock.sink) (g.K.Sink.state c.put_all.new.sink)
    (text_from c.args.words.now (declaration_of c.args.decl.now) c.args.script.now c.args.clocks c.args.bench.now)
    c.loop-clock-test.true (c.as_slice.ensures.value ∙ c.next_trace_line.ensures.line)
    c.next_trace_line.ensures.state c.loop-clock.invariant.goes_on c.loop-clock.invariant.written c.in-Err.ensures.err

pub loop-clock-preserved : goal.loop-clock-preserved
loop-clock-preserved g c = record {
  written =
      clock_written c.args.words.now (declaration_of c.args.decl.now)
      c.args.script.now c.args.clocks c.loop-clock.clock c.loop-clock.bench c.next_trace_line.new.bench c.as_slice.result.now
      (g.K.Sink.state c.args.sink.now) (g.K.Sink.state c.loop-clock.sink) (g.K.Sink.state c.put_all.new.sink)
      (text_from c.args.words.now (declaration_of c.args.decl.now) c.args.script.now c.args.clocks c.args.bench.now)
      c.loop-clock-test.true (c.as_slice.ensures.value ∙ c.next_trace_line.ensures.line)
      c.next_trace_line.ensures.state c.loop-clock.invariant.goes_on c.loop-clock.invariant.written c.in-Ok.ensures.ok;
  goes_on = goes_further (g.K.Sink.state c.args.sink.now) (g.K.Sink.state c.loop-clock.sink) (g.K.Sink.state c.put_all.new.sink)
      c.loop-clock.invariant.goes_on c.in-Ok.ensures.goes_on;
  machine = c.next_trace_line.ensures.fits;
  clock = omega (
    arith,
    ap (λ (s : BenchState). s.machine.clock) c.next_trace_line.ensures.state,
    step_clock c.args.words.now (declaration_of c.args.decl.now) c.loop-clock.bench (buses_for c.args.script.now c.loop-clock.bench),
    c.loop-clock.invariant.clock,
  );
}

pub returns-clause-ok : goal.returns-clause-ok
returns-clause-ok g c =
    let ended : c.args.clocks - c.loop-clock.clock ≡ 0 = omega (arith, c.loop-clock-test.false) in
    written_all (g.K.Sink.state c.args.sink.now) (g.K.Sink.state c.loop-clock.sink)
    (text_from c.args.words.now (declaration_of c.args.decl.now) c.args.script.now c.args.clocks c.args.bench.now)
    (text_from c.args.words.now (declaration_of c.args.decl.now) c.args.script.now (c.args.clocks - c.loop-clock.clock)
    c.loop-clock.bench)
    (rw ended (text_none c.args.words.now (declaration_of c.args.decl.now) c.args.script.now c.loop-clock.bench))
    c.loop-clock.invariant.written
