use Rattle.std.proofs.Common.{inl, inr}
use Rattle.field_decl.specs.Decls.{declaration_of}
use Rattle.prom_split.specs.Microword.{HasNoBadShift}
use Rattle.replies.specs.Texts.{Refuses}
use Rattle.bench_answers.specs.Running.{shift_reason}
use Rattle.bench_answers.specs.ReadingBack.{IsPlacedRun, ShiftOrRun}
use Rattle.bench_answers.proofs.Replying.{stop_wants, more_wants, shift_told}
use Rattle.bench_answers.proofs.placed_runs.run_back.Goals as goal

pub returns-in-Some-clause-ends : goal.returns-in-Some-clause-ends
returns-in-Some-clause-ends g c =
    let decl = declaration_of c.args.saved.now.decl in
    let words = c.args.saved.now.words in
    stop_wants (HasNoBadShift words decl) (Refuses c.args.name.now (shift_reason c.in-Some.cell))
    (ShiftOrRun c.args.name.now decl words c.args.script.now c.args.clocks)
    (λ s text reply. inl (shift_told c.args.name.now decl words c.in-Some.cell c.in-Some.ensures.found s text reply))
    c.refuse_shift.result (g.K.Sink.state c.args.out.now) (g.K.Sink.state c.say_stop.new.out)
    c.say_stop.result c.refuse_shift.ensures c.say_stop.ensures.says

pub returns-in-None-clause-ends : goal.returns-in-None-clause-ends
returns-in-None-clause-ends g c =
    let decl = declaration_of c.args.saved.now.decl in
    let words = c.args.saved.now.words in
    more_wants (HasNoBadShift words decl) (HasNoBadShift words decl) (λ unmasked. unmasked)
    (IsPlacedRun decl words c.args.script.now c.args.clocks) (ShiftOrRun c.args.name.now decl words c.args.script.now c.args.clocks)
    (λ s text run. inr run)
    (g.K.Sink.state c.args.out.now) (g.K.Sink.state c.write_placed.new.out) c.write_placed.result c.write_placed.ensures.ends
