use Rattle.std.proofs.Common.{◌≡◌, ◌∙◌, ap, sym, arith, true, false, Some, None, below_more}
use Rattle.std.proofs.lemmas.Option.{slice_get-get_or}
use Rattle.placement_clauses.proofs.FirstReal.{first-is, all-traps, is-None}
use Rattle.clause_encode.proofs.first_label.first_label_of.Goals as goal

pub returns-in-Some-clause-outcome : goal.returns-in-Some-clause-outcome
returns-in-Some-clause-outcome c =
    let there = slice_get-get_or c.args.targets.now c.loop-outcome.outcome None c.loop-outcome-test.true ∙ ap Some c.in-Some.is in
    sym (first-is c.args.targets.now c.loop-outcome.outcome c.in-Some.label c.loop-outcome.invariant there).0

pub returns-in-Some-clause-label : goal.returns-in-Some-clause-label
returns-in-Some-clause-label c =
    let there = slice_get-get_or c.args.targets.now c.loop-outcome.outcome None c.loop-outcome-test.true ∙ ap Some c.in-Some.is in
    c.from.ensures ∙ sym (first-is c.args.targets.now c.loop-outcome.outcome c.in-Some.label c.loop-outcome.invariant there).1

pub returns-in-Some-clause-there : goal.returns-in-Some-clause-there
returns-in-Some-clause-there c =
    slice_get-get_or c.args.targets.now c.loop-outcome.outcome None c.loop-outcome-test.true ∙ ap Some c.in-Some.is
    ∙ ap (λ y. Some (Some y)) (sym c.from.ensures)

pub loop-outcome-preserved : goal.loop-outcome-preserved
loop-outcome-preserved c = below_more _ _ c.loop-outcome.invariant
    (slice_get-get_or c.args.targets.now c.loop-outcome.outcome None c.loop-outcome-test.true ∙ ap Some (is-None _ c.in_default.not-Some))

pub unreachable-requires : goal.unreachable-requires
unreachable-requires c =
    let none : false ≡ true = sym (all-traps c.args.targets.now (λ k lt. c.loop-outcome.invariant k (omega arith))) ∙ c.requires.label in
    cc
