use Rattle.std.proofs.Common.{List, inl, refl, sym, subst}
use Rattle.flow_graph.specs.Graph.{graph_of}
use Rattle.saved_files.specs.SavedFile.{SavedFile}
use Rattle.replies.specs.Texts.{no_memory}
use Rattle.replies.specs.declared.status.Status.TheVariants as status
use Rattle.replies.proofs.Stopping.{Ends-map, says_ends}
use Rattle.bench_answers.specs.RunOrder.{order_of}
use Rattle.bench_answers.specs.PlacedFiles.{PlacesFiles}
use Rattle.bench_answers.specs.Placed.{FilesAnswer, UnlessUnsaved, PlacedAnswer}
use Rattle.bench_answers.proofs.OtherFiles.{others_stay}
use Rattle.bench_answers.proofs.Replying.{placed_answer}
use Rattle.bench_answers.proofs.placed_runs.save_and_run.Goals as goal

pub returns-in-Ok-clause-ends : goal.returns-in-Ok-clause-ends
returns-in-Ok-clause-ends g c =
    let asked = c.args.asked in
    let files = c.deref.result.now in
    let old = g.S.Shelf.state c.args.shelf.now in
    let new = g.S.Shelf.state c.save_files.new.shelf in
    let P : List SavedFile → Type 0 = λ fs. PlacesFiles asked.out.now (graph_of c.args.program.now) c.args.placement.now fs in
    Ends-map (UnlessUnsaved old new (FilesAnswer (order_of asked c.args.script_bytes.now) files old new))
    (PlacedAnswer (order_of asked c.args.script_bytes.now) (graph_of c.args.program.now)
    c.args.placement.now old new)
    (placed_answer (order_of asked c.args.script_bytes.now) (graph_of c.args.program.now)
    c.args.placement.now files old new (subst P (sym c.deref.ensures.value) c.in-Ok.ensures.files))
    (g.K.Sink.state c.args.out.now) (g.K.Sink.state c.save_files.new.out) c.save_files.result c.save_files.ensures.ends

pub returns-in-Ok-clause-others : goal.returns-in-Ok-clause-others
returns-in-Ok-clause-others g c =
    let P : List SavedFile → Type 0 = λ fs. PlacesFiles c.args.asked.out.now (graph_of c.args.program.now) c.args.placement.now fs in
    others_stay c.args.asked.out.now (graph_of c.args.program.now) c.args.placement.now c.deref.result.now
    (g.S.Shelf.state c.args.shelf.now) (g.S.Shelf.state c.save_files.new.shelf)
    (subst P (sym c.deref.ensures.value) c.in-Ok.ensures.files) c.save_files.ensures.others

pub returns-in-Err-clause-ends : goal.returns-in-Err-clause-ends
returns-in-Err-clause-ends g c =
    let asked = c.args.asked in
    let old = g.S.Shelf.state c.args.shelf.now in
    says_ends (PlacedAnswer (order_of asked c.args.script_bytes.now) (graph_of c.args.program.now)
    c.args.placement.now old old)
    status.NoMemory no_memory (g.K.Sink.state c.args.out.now) (g.K.Sink.state c.say_no_memory.new.out) c.say_no_memory.result
    (inl (record { status_is = refl; text_is = refl; same = refl })) c.say_no_memory.ensures.says
