use Rattle.std.proofs.Common.{◌≡◌, ap, ◌∙◌, None, Option, ◌↔◌}
use Rattle.clause_base.specs.declared.line.Line.{Line}
use Rattle.clause_base.specs.Refutation.{Derived}
use Rattle.refute_check.specs.Known.{known_list}
use Rattle.refute_check.specs.Hints.{judged}
use Rattle.ref_text.specs.declared.why.Why.{Why}
use Rattle.refute_check.proofs.DeriveLemmas.{tells, each_answer}
use Rattle.refute_check.proofs.derivation.derive_line.Goals as goal

pub returns-clause-derived : goal.returns-clause-derived
returns-clause-derived c =
    let list = known_list c.args.known.now in
    let line : Line = record { clause = c.args.clause.now; hints = c.args.hints.now } in
    each_answer
    (λ (f : Option Why). f ≡ judged list.clauses c.hold_negated.new.signs.held line.hints)
    (λ (f : Option Why). (f ≡ None) ↔ Derived list line)
    (λ f e.
    let x = tells list line f c.requires.above c.requires.in_range c.requires.apart c.requires.some c.requires.hints
    (e ∙ ap (λ held. judged list.clauses held line.hints) c.in_ok-hold_negated.ensures.held) in
    (x.ok, x.only))
    c.run_hints.result
    c.run_hints.ensures.judged
