use Rattle.std.proofs.Common.{ℕ, List, subst}
use Rattle.flow_graph.specs.Graph.{graph_of}
use Rattle.replies.specs.Ending.{Ends, OrNoMemory}
use Rattle.replies.proofs.Stopping.{Ends-map, said_stop}
use Rattle.bench_answers.specs.RunOrder.{order_of}
use Rattle.micro_cli.specs.Inputs.{InputsReply}
use Rattle.micro_cli.specs.Searching.{SearchAnswer}
use Rattle.micro_cli.specs.Making.{MakeAnswer}
use Rattle.micro_cli.proofs.MakeSteps.{make_from, make_without}
use Rattle.micro_cli.proofs.make_command.make_command.Goals as goal

pub returns-in-Ok-clause-ends : goal.returns-in-Ok-clause-ends
returns-in-Ok-clause-ends g c =
    let asked = c.args.asked in
    let old = g.S.Shelf.state c.args.shelf.now in
    let mid = g.S.Shelf.state c.load_make_inputs.new.shelf in
    let new = g.S.Shelf.state c.place_and_save.new.shelf in
    let graph = graph_of c.in-Ok.inputs.program in
    let bytes = c.in-Ok.inputs.script.items in
    let P : List ℕ → Type 0 = λ b. Ends (SearchAnswer (order_of asked b) c.args.conflicts graph mid new)
    (g.K.Sink.state c.args.out.now) (g.K.Sink.state c.place_and_save.new.out) c.place_and_save.result in
    Ends-map (SearchAnswer (order_of asked bytes) c.args.conflicts graph mid new)
    (MakeAnswer c.args.src.now asked.script.now asked.out.now asked.clocks c.args.conflicts old new)
    (make_from c.args.src.now asked.script.now asked.out.now asked.clocks c.args.conflicts old mid new graph bytes c.in-Ok.ensures.step)
    (g.K.Sink.state c.args.out.now) (g.K.Sink.state c.place_and_save.new.out) c.place_and_save.result
    (subst P c.deref.ensures.value c.place_and_save.ensures.ends)

pub returns-in-Err-clause-ends : goal.returns-in-Err-clause-ends
returns-in-Err-clause-ends g c =
    let asked = c.args.asked in
    let old = g.S.Shelf.state c.args.shelf.now in
    let new = g.S.Shelf.state c.load_make_inputs.new.shelf in
    Ends-map (OrNoMemory (InputsReply c.args.src.now asked.script.now old new))
    (MakeAnswer c.args.src.now asked.script.now asked.out.now asked.clocks c.args.conflicts old new)
    (make_without c.args.src.now asked.script.now asked.out.now asked.clocks c.args.conflicts old new
    (record { same = c.load_make_inputs.ensures.same; no_change = c.load_make_inputs.ensures.no_change }))
    (g.K.Sink.state c.args.out.now) (g.K.Sink.state c.say_stop.new.out) c.say_stop.result
    (said_stop (InputsReply c.args.src.now asked.script.now old new) c.in-Err.stop (g.K.Sink.state c.args.out.now)
    (g.K.Sink.state c.say_stop.new.out) c.say_stop.result
    c.in-Err.ensures.step c.say_stop.ensures.says)
