use Rattle.std.proofs.Common.{◌≡◌, ◌+◌, ap, refl, arith, length, None}
use Rattle.std.proofs.lemmas.Option.{slice_get-get_or}
use Rattle.placement_clauses.specs.Upto.{upto, at_place}
use Rattle.placement_clauses.specs.Clauses.{trap_outcome}
use Rattle.placement_clauses.proofs.UptoLemmas.{upto-none}
use Rattle.placement_clauses.proofs.CountLemmas.{length-each_more}
use Rattle.clause_encode.proofs.PlaceLemmas.{at_element}
use Rattle.clause_encode.proofs.traps.traps_clause.Goals as goal

pub loop-outcome-init : goal.loop-outcome-init
loop-outcome-init c =
    let f = trap_outcome c.args.labels c.args.kind c.args.first.label c.args.first.outcome in
    let e : length (upto 0 (at_place c.args.targets.now f)) ≡ 0 = ap length (upto-none (at_place c.args.targets.now f)) in
    omega arith

pub returns-then-left-block : goal.returns-then-left-block
returns-then-left-block c =
    let f = trap_outcome c.args.labels c.args.kind c.args.first.label c.args.first.outcome in
    let there = slice_get-get_or c.args.targets.now c.loop-outcome.outcome None c.loop-outcome-test.true in
    let block = c.trap_outcome_count-block.ensures.count c.loop-outcome.outcome in
    at_element c.args.targets.now f c.loop-outcome.outcome _ c.args.place c.loop-outcome.left _ there c.loop-outcome.invariant
    (omega (arith, block)) c.trap_outcome_clause.ensures

pub loop-outcome-preserved : goal.loop-outcome-preserved
loop-outcome-preserved c =
    let f = trap_outcome c.args.labels c.args.kind c.args.first.label c.args.first.outcome in
    let there = slice_get-get_or c.args.targets.now c.loop-outcome.outcome None c.loop-outcome-test.true in
    let more : length (upto (c.loop-outcome.outcome + 1) (at_place c.args.targets.now f)) ≡ length
    (upto c.loop-outcome.outcome (at_place c.args.targets.now f)) + c.trap_outcome_count-block.result =
    length-each_more c.args.targets.now f c.loop-outcome.outcome _ _ _ there
    (c.trap_outcome_count-block.ensures.count c.loop-outcome.outcome) refl in
    omega (arith, c.loop-outcome.invariant)
