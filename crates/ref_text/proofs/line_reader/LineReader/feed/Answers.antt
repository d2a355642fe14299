use Rattle.std.proofs.Common.{◌≡◌, ◌∙◌, ◌+◌, ℕ, ap, sym, refl, Option, Some, None}
use Rattle.ref_text.specs.Reading.{Reader, after_feed, fed_of}
use Rattle.ref_text.specs.declared.why.Why.{Why}
use Rattle.ref_text.specs.declared.events.Fed.{Fed}
use Rattle.ref_text.specs.declared.events.Event.TheVariants as event
use Rattle.ref_text.proofs.PieceLaws.{feed_is, feed_fails}
use Rattle.ref_text.proofs.line_reader.LineReader.feed.Goals as goal

none_from : (o : Option Why) → ((why : Why) → o ≡ Some why → ⊥) → o ≡ None
none_from None h = refl
none_from (Some why) h = absurd (h why refl)

pub returns-in-Some-clause-pieces : goal.returns-in-Some-clause-pieces
returns-in-Some-clause-pieces c =
    let r = c.args.self.now in
    let bad : r.bad ≡ Some c.in-Some.why = ap (λ (s : Reader). s.bad) (sym c.self.view_is) ∙ c.in-Some.is in
    let count : c.self.inside.count ≡ r.count = ap (λ (s : Reader). s.count) c.self.view_is in
    let fed : Fed = record { used = 0; event = event.Bad (c.self.inside.count + 1) c.in-Some.why } in
    let told : fed ≡ fed_of r.bad r c.args.piece.now =
    ap (λ (n : ℕ). record { used = 0; event = event.Bad (n + 1) c.in-Some.why }) count
    ∙ ap (λ (o : Option Why). fed_of o r c.args.piece.now) (sym bad) in
    feed_is r r c.args.piece.now fed told (ap (λ (o : Option Why). after_feed o r c.args.piece.now) (sym bad))

pub returns-in-Ok-clause-pieces : goal.returns-in-Ok-clause-pieces
returns-in-Ok-clause-pieces c =
    let r = c.args.self.now in
    let bad : r.bad ≡ None = ap (λ (s : Reader). s.bad) (sym c.self.view_is)
    ∙ none_from c.self.inside.bad (λ why e. c.in_default.not-Some why e) in
    feed_is r c.take.new.self c.args.piece.now c.in-Ok.fed
    (c.in-Ok.ensures.fed ∙ ap (λ (o : Option Why). fed_of o r c.args.piece.now) (sym bad))
    (c.in-Ok.ensures.reader ∙ ap (λ (o : Option Why). after_feed o r c.args.piece.now) (sym bad))

pub returns-in-Ok-clause-goes_on : goal.returns-in-Ok-clause-goes_on
returns-in-Ok-clause-goes_on c =
    ap (λ (s : Reader). s.failed) c.in-Ok.ensures.reader ∙ feed_fails c.args.self.now c.args.piece.now
    ∙ ap (λ (s : Reader). s.failed) (sym c.self.view_is) ∙ c.if-self.false
