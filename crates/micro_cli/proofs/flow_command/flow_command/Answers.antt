use Rattle.std.proofs.Common.{inl}
use Rattle.flow_graph.specs.Graph.{graph_of}
use Rattle.replies.specs.Ending.{OrNoMemory}
use Rattle.replies.proofs.Stopping.{Ends-map, StopsBy-map, said_stop}
use Rattle.micro_cli.specs.Inputs.{InputsReply}
use Rattle.micro_cli.specs.Flowing.{FlowReply, IsFlow}
use Rattle.micro_cli.proofs.FlowSteps.{FlowReply-from}
use Rattle.micro_cli.proofs.flow_command.flow_command.Goals as goal

pub returns-in-Ok-clause-ends : goal.returns-in-Ok-clause-ends
returns-in-Ok-clause-ends g c =
    Ends-map (OrNoMemory (IsFlow (graph_of c.in-Ok.inputs.program) c.in-Ok.inputs.script c.args.clocks))
    (OrNoMemory (FlowReply c.args.src.now c.args.script.now c.args.clocks (g.S.Shelf.state c.args.shelf.now)
    (g.S.Shelf.state c.load_inputs.new.shelf)))
    (FlowReply-from c.args.src.now c.args.script.now c.args.clocks (g.S.Shelf.state c.args.shelf.now)
    (g.S.Shelf.state c.load_inputs.new.shelf)
    (graph_of c.in-Ok.inputs.program) c.in-Ok.inputs.script c.in-Ok.ensures.step)
    (g.K.Sink.state c.args.out.now) (g.K.Sink.state c.write_flow.new.out) c.write_flow.result c.write_flow.ensures.ends

pub returns-in-Err-clause-ends : goal.returns-in-Err-clause-ends
returns-in-Err-clause-ends g c =
    said_stop (FlowReply c.args.src.now c.args.script.now c.args.clocks (g.S.Shelf.state c.args.shelf.now)
    (g.S.Shelf.state c.load_inputs.new.shelf))
    c.in-Err.stop (g.K.Sink.state c.args.out.now) (g.K.Sink.state c.say_stop.new.out) c.say_stop.result
    (StopsBy-map (InputsReply c.args.src.now c.args.script.now (g.S.Shelf.state c.args.shelf.now)
    (g.S.Shelf.state c.load_inputs.new.shelf))
    (FlowReply c.args.src.now c.args.script.now c.args.clocks (g.S.Shelf.state c.args.shelf.now)
    (g.S.Shelf.state c.load_inputs.new.shelf))
    (λ s text reply. inl reply) c.in-Err.stop c.in-Err.ensures.step)
    c.say_stop.ensures.says
