use Rattle.std.proofs.Common.{inl, inr}
use Rattle.field_decl.specs.Decls.{declaration_of}
use Rattle.replies.specs.Texts.{Refuses}
use Rattle.bench_answers.specs.Running.{shift_reason, IsRun, BenchReply}
use Rattle.bench_answers.proofs.Replying.{stop_replies, more_replies, shift_told}
use Rattle.bench_answers.proofs.saved_runs.write_run.Goals as goal

pub returns-in-Some-clause-ends : goal.returns-in-Some-clause-ends
returns-in-Some-clause-ends g c =
    let decl = declaration_of c.args.inputs.now.saved.decl in
    let words = c.args.inputs.now.saved.words in
    stop_replies (Refuses c.args.name.now (shift_reason c.in-Some.cell))
    (BenchReply c.args.name.now decl words c.args.inputs.now.script c.args.clocks)
    (λ s text reply. inl (shift_told c.args.name.now decl words c.in-Some.cell c.in-Some.ensures.found s text reply))
    c.refuse_shift.result (g.K.Sink.state c.args.out.now) (g.K.Sink.state c.say_stop.new.out)
    c.say_stop.result c.refuse_shift.ensures c.say_stop.ensures.says

pub returns-in-None-clause-ends : goal.returns-in-None-clause-ends
returns-in-None-clause-ends g c =
    let decl = declaration_of c.args.inputs.now.saved.decl in
    let words = c.args.inputs.now.saved.words in
    more_replies (IsRun decl words c.args.inputs.now.script c.args.clocks)
    (BenchReply c.args.name.now decl words c.args.inputs.now.script c.args.clocks) (λ s text run. inr run)
    (g.K.Sink.state c.args.out.now) (g.K.Sink.state c.write_trace.new.out) c.write_trace.result c.write_trace.ensures.ends
