use Rattle.std.proofs.Common.{refl, inl, inr, subst}
use Rattle.io_base.specs.Sink.{SinkState}
use Rattle.flow_graph.specs.Graph.{graph_of}
use Rattle.flow_sim.specs.TraceText.{flow_text}
use Rattle.replies.specs.Texts.{no_memory}
use Rattle.replies.specs.Ending.{Says, OrNoMemory}
use Rattle.replies.specs.declared.status.Status.TheVariants as status
use Rattle.replies.proofs.Stopping.{says_ends}
use Rattle.micro_cli.specs.Flowing.{IsFlow}
use Rattle.micro_cli.proofs.flow_command.write_flow.Goals as goal

pub returns-in-Err-Failed-clause-ends : goal.returns-in-Err-Failed-clause-ends
returns-in-Err-Failed-clause-ends g c =
    inr (
      refl,
      rw c.in-Err-Failed.field-0-is at c.in-Err-Failed.ensures.cause,
      (
        status.Done,
        flow_text (graph_of c.args.program.now) c.args.script.now c.args.clocks,
        inl (record { status_is = refl; text_is = refl }),
        c.in-Err-Failed.ensures.err,
      ),
    )

pub returns-in-Err-OutOfMemory-clause-ends : goal.returns-in-Err-OutOfMemory-clause-ends
returns-in-Err-OutOfMemory-clause-ends g c =
    let P : SinkState → Type 0 =
    λ sink. Says status.NoMemory no_memory sink (g.K.Sink.state c.say_no_memory.new.out) c.say_no_memory.result in
    says_ends (OrNoMemory (IsFlow (graph_of c.args.program.now) c.args.script.now c.args.clocks)) status.NoMemory no_memory
    (g.K.Sink.state c.args.out.now) (g.K.Sink.state c.say_no_memory.new.out) c.say_no_memory.result (inr (refl, refl))
    (subst P (rw c.in-Err-OutOfMemory.field-0-is at c.in-Err-OutOfMemory.ensures.cause) c.say_no_memory.ensures.says)
