use Rattle.std.proofs.Common.{◌≡◌, ◌-◌}
use Rattle.io_base.specs.Sink.{SinkGoesOn}
use Rattle.flow_graph.specs.Graph.{graph_of}
use Rattle.flow_sim.specs.Flow.{IsStateOf}
use Rattle.flow_sim.specs.TraceText.{text_from, flow_text}
use Rattle.flow_sim.proofs.TextSteps.{Written}
use Rattle.flow_sim.proofs.running.write_clocks.Given as goal

abbrev pub invariant-loop-clock : goal.invariant-loop-clock
invariant-loop-clock g l = record {
  written : Written (g.K.Sink.state l.initial.sink) (g.K.Sink.state l.sink) (flow_text (graph_of l.program) l.script l.clocks)
      (text_from (graph_of l.program) l.script (l.clocks - l._clock) l.state);
  goes_on : SinkGoesOn (g.K.Sink.state l.initial.sink) (g.K.Sink.state l.sink);
  state : IsStateOf (graph_of l.program) l.state;
  clock : l.state.machine.clock ≡ l._clock;
}
