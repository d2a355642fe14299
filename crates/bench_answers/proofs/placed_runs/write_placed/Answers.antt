use Rattle.field_decl.specs.Decls.{declaration_of}
use Rattle.bench_answers.proofs.Replying.{placed_ends, placed_failed}
use Rattle.bench_answers.proofs.placed_runs.write_placed.Goals as goal

pub returns-in-Ok-clause-ends : goal.returns-in-Ok-clause-ends
returns-in-Ok-clause-ends g c =
    placed_ends (declaration_of c.args.saved.now.decl) c.args.saved.now.words c.args.script.now c.args.clocks c.requires.no_bad_shift
    (g.K.Sink.state c.args.out.now) (g.K.Sink.state c.put_all.new.sink) (g.K.Sink.state c.write_trace.new.out) c.write_trace.result
    c.in-Ok.ensures.goes_on c.in-Ok.ensures.ok c.write_trace.ensures.ends

pub returns-in-Err-clause-ends : goal.returns-in-Err-clause-ends
returns-in-Err-clause-ends g c =
    placed_failed (declaration_of c.args.saved.now.decl) c.args.saved.now.words c.args.script.now c.args.clocks
    (g.K.Sink.state c.args.out.now) (g.K.Sink.state c.put_all.new.sink)
    c.requires.no_bad_shift c.in-Err.ensures.cause c.in-Err.ensures.err
