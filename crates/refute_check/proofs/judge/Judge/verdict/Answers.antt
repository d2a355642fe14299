use Rattle.std.proofs.Common.{◌∙◌, ℕ, sym, ap}
use Rattle.ref_text.specs.declared.events.Fed.{Fed}
use Rattle.refute_check.specs.Check.{ended}
use Rattle.refute_check.proofs.VerdictLemmas.{begun_bad, not_begun}
use Rattle.refute_check.proofs.judge.Judge.verdict.Goals as goal

pub returns-in-Bad : goal.returns-in-Bad
returns-in-Bad c =
    let s = c.args.self in
    begun_bad s.reader.count _ s.over s.reader.bad s.reader.begun c.in-Bad.line c.in-Bad.why c.requires.counted c.requires.bad
    (sym c.in-Bad.is ∙ ap (λ (f : Fed). f.event) c.finish.ensures)

pub returns : goal.returns
returns c =
    let s = c.args.self in
    c.answer_after.ensures ∙ ap (λ (n : ℕ). ended n s.over) c.lines-count.ensures.count
    ∙ not_begun s.reader.count _ s.over s.reader.bad s.reader.begun c.finish.result.event c.requires.bad
    (ap (λ (f : Fed). f.event) c.finish.ensures) c.in_default.not-Bad
