use Rattle.std.proofs.Common.{inl, inr}
use Rattle.field_decl.specs.Decls.{declaration_of}
use Rattle.bench_answers.specs.Running.{BenchReply, BenchInputsReply, RunReply}
use Rattle.bench_answers.proofs.Replying.{stop_replies, more_replies}
use Rattle.bench_answers.proofs.saved_runs.run_saved.Goals as goal

pub returns-in-Ok-clause-ends : goal.returns-in-Ok-clause-ends
returns-in-Ok-clause-ends g c =
    let decl = declaration_of c.in-Ok.inputs.saved.decl in
    let words = c.in-Ok.inputs.saved.words in
    more_replies (BenchReply c.args.name.now decl words c.in-Ok.inputs.script c.args.clocks)
    (RunReply c.args.name.now c.args.script.now c.args.clocks (g.S.Shelf.state c.args.shelf.now) (g.S.Shelf.state c.load_bench.new.shelf))
    (λ s text reply. inr (decl, words, c.in-Ok.inputs.script, c.in-Ok.ensures.step, reply))
    (g.K.Sink.state c.args.out.now) (g.K.Sink.state c.write_run.new.out) c.write_run.result c.write_run.ensures.ends

pub returns-in-Err-clause-ends : goal.returns-in-Err-clause-ends
returns-in-Err-clause-ends g c =
    stop_replies (BenchInputsReply c.args.name.now c.args.script.now (g.S.Shelf.state c.args.shelf.now)
    (g.S.Shelf.state c.load_bench.new.shelf))
    (RunReply c.args.name.now c.args.script.now c.args.clocks (g.S.Shelf.state c.args.shelf.now) (g.S.Shelf.state c.load_bench.new.shelf))
    (λ s text reply. inl reply)
    c.in-Err.stop (g.K.Sink.state c.args.out.now) (g.K.Sink.state c.say_stop.new.out)
    c.say_stop.result c.in-Err.ensures.step c.say_stop.ensures.says
