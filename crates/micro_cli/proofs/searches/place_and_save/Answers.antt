use Rattle.flow_graph.specs.Graph.{graph_of}
use Rattle.replies.proofs.Stopping.{Ends-map}
use Rattle.bench_answers.specs.RunOrder.{order_of}
use Rattle.bench_answers.specs.Placed.{PlacedAnswer}
use Rattle.micro_cli.specs.Searching.{SearchEnd, SearchAnswer}
use Rattle.micro_cli.proofs.ToldFiles.{wants_ends, found_answer}
use Rattle.micro_cli.proofs.searches.place_and_save.Goals as goal

pub returns-in-Ok-clause-ends : goal.returns-in-Ok-clause-ends
returns-in-Ok-clause-ends g c =
    let asked = c.args.asked in
    let graph = graph_of c.args.program.now in
    let old = g.S.Shelf.state c.args.shelf.now in
    let new = g.S.Shelf.state c.save_and_run.new.shelf in
    Ends-map (PlacedAnswer (order_of asked c.args.script_bytes.now) graph c.in-Ok.placement old new)
    (SearchAnswer (order_of asked c.args.script_bytes.now) c.args.conflicts graph old new)
    (found_answer (order_of asked c.args.script_bytes.now) c.args.conflicts graph c.in-Ok.placement old new)
    (g.K.Sink.state c.args.out.now) (g.K.Sink.state c.save_and_run.new.out) c.save_and_run.result c.save_and_run.ensures.ends

pub returns-in-Err-OutOfMemory-clause-ends : goal.returns-in-Err-OutOfMemory-clause-ends
returns-in-Err-OutOfMemory-clause-ends g c =
    let asked = c.args.asked in
    let shelf = g.S.Shelf.state c.args.shelf.now in
    wants_ends (SearchEnd (order_of asked c.args.script_bytes.now) c.args.conflicts
    (graph_of c.args.program.now) shelf shelf) shelf
    (g.K.Sink.state c.args.out.now) (g.K.Sink.state c.say_no_memory.new.out) c.say_no_memory.result c.say_no_memory.ensures.says
