use Rattle.std.proofs.Common.{inl, inr}
use Rattle.field_decl.specs.Decls.{declaration_of}
use Rattle.prom_split.specs.Microword.{HasNoBadShift}
use Rattle.prom_files.specs.WordsStep.{WordsReply}
use Rattle.replies.specs.ScriptStep.{RefusesScript}
use Rattle.bench_answers.specs.RunOrder.{order_of}
use Rattle.bench_answers.specs.ReadingBack.{BackReply, MayRun, ShiftOrRun}
use Rattle.bench_answers.proofs.Replying.{stop_wants, more_wants}
use Rattle.bench_answers.proofs.placed_runs.read_back.Goals as goal

pub returns-in-Ok-script_from-clause-ends : goal.returns-in-Ok-script_from-clause-ends
returns-in-Ok-script_from-clause-ends g c =
    let asked = c.args.asked in
    let decl = declaration_of c.in-Ok.saved.decl in
    more_wants (HasNoBadShift c.in-Ok.saved.words decl)
    (MayRun (order_of asked c.args.bytes.now) (g.S.Shelf.state c.args.shelf.now) (g.S.Shelf.state c.load_words.new.shelf))
    (λ unmasked. record {
      decl = decl;
      words = c.in-Ok.saved.words;
      said = c.in-Ok-script_from.script;
      had = c.in-Ok.ensures.step;
      meant = c.in-Ok-script_from.ensures.step;
      no_bad_shift = unmasked;
    })
    (ShiftOrRun asked.out.now decl c.in-Ok.saved.words c.in-Ok-script_from.script asked.clocks)
    (BackReply (order_of asked c.args.bytes.now) (g.S.Shelf.state c.args.shelf.now)
    (g.S.Shelf.state c.load_words.new.shelf))
    (λ s text run. inr (
      decl,
      c.in-Ok.saved.words,
      c.in-Ok.ensures.step,
      inr (c.in-Ok-script_from.script, c.in-Ok-script_from.ensures.step, run),
    ))
    (g.K.Sink.state c.args.out.now) (g.K.Sink.state c.run_back.new.out) c.run_back.result c.run_back.ensures.ends

pub returns-in-Ok-clause-ends : goal.returns-in-Ok-clause-ends
returns-in-Ok-clause-ends g c =
    let asked = c.args.asked in
    let decl = declaration_of c.in-Ok.saved.decl in
    stop_wants (MayRun (order_of asked c.args.bytes.now) (g.S.Shelf.state c.args.shelf.now) (g.S.Shelf.state c.load_words.new.shelf))
    (RefusesScript asked.script.now decl.slices c.args.bytes.now)
    (BackReply (order_of asked c.args.bytes.now) (g.S.Shelf.state c.args.shelf.now)
    (g.S.Shelf.state c.load_words.new.shelf))
    (λ s text refused. inr (decl, c.in-Ok.saved.words, c.in-Ok.ensures.step, inl refused))
    c.in-Err-script_from.stop (g.K.Sink.state c.args.out.now) (g.K.Sink.state c.say_stop.new.out)
    c.say_stop.result c.in-Err-script_from.ensures.step c.say_stop.ensures.says

pub returns-clause-ends : goal.returns-clause-ends
returns-clause-ends g c =
    let asked = c.args.asked in
    stop_wants (MayRun (order_of asked c.args.bytes.now) (g.S.Shelf.state c.args.shelf.now) (g.S.Shelf.state c.load_words.new.shelf))
    (WordsReply asked.out.now (g.S.Shelf.state c.args.shelf.now) (g.S.Shelf.state c.load_words.new.shelf))
    (BackReply (order_of asked c.args.bytes.now) (g.S.Shelf.state c.args.shelf.now)
    (g.S.Shelf.state c.load_words.new.shelf))
    (λ s text reply. inl reply)
    c.in-Err.stop (g.K.Sink.state c.args.out.now) (g.K.Sink.state c.say_stop-in-Err.new.out)
    c.say_stop-in-Err.result c.in-Err.ensures.step c.say_stop-in-Err.ensures.says
