use Rattle.std.proofs.Common.{◌≡◌, ◌+◌, ◌-◌}
use Rattle.io_base.specs.Sink.{SinkGoesOn}
use Rattle.field_decl.specs.Decls.{declaration_of}
use Rattle.flow_sim.specs.Machine.{IsMachineFor}
use Rattle.flow_sim.proofs.TextSteps.{Written}
use Rattle.bus_bench.specs.Chip.{text_from}
use Rattle.bus_bench.proofs.running.write_clocks.Given as goal

-- the text so far is written, and what is left begins at this clock
abbrev pub invariant-loop-clock : goal.invariant-loop-clock
invariant-loop-clock g l = record {
  written : Written (g.K.Sink.state l.initial.sink) (g.K.Sink.state l.sink)
      (text_from l.words (declaration_of l.decl) l.script l.clocks l.initial.bench)
      (text_from l.words (declaration_of l.decl) l.script (l.clocks - l.clock) l.bench);
  goes_on : SinkGoesOn (g.K.Sink.state l.initial.sink) (g.K.Sink.state l.sink);
  machine : IsMachineFor l.decl.slices l.bench.machine;
  clock : l.bench.machine.clock ≡ l.initial.bench.machine.clock + l.clock;
}
