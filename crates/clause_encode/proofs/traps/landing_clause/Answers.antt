use Rattle.std.proofs.Common.{◌<◌, ◌+◌, ◌-◌, ◌/◌, ◌%◌, arith}
use Rattle.placement_clauses.specs.Upto.{upto}
use Rattle.placement_clauses.specs.Clauses.{trap_of, trap_pair}
use Rattle.clause_encode.proofs.PlaceLemmas.{at_piece}
use Rattle.clause_encode.proofs.LandingLemmas.{landing-below, landing-before, landing-after}
use Rattle.clause_encode.proofs.traps.landing_clause.Goals as goal

pub overflow_add-skipped : goal.overflow_add-skipped
overflow_add-skipped c =
    let first = c.args.first in
    let block = c.trap_pair_count-block in
    let below : c.args.place / block.result < c.args.labels - 1 =
    landing-below c.args.labels c.args.kind first.label first.outcome c.args.outcome block.result c.args.place
    (block.ensures.count c.args.labels first.label first.outcome c.args.outcome)
    block.ensures.some c.requires.first_label c.requires.place in
    omega arith

pub trap_pair_clause-requires-else-skipped-first-clause-label : goal.trap_pair_clause-requires-else-skipped-first-clause-label
trap_pair_clause-requires-else-skipped-first-clause-label c =
    let first = c.args.first in
    let block = c.trap_pair_count-block in
    (landing-after c.args.labels c.args.kind first.label first.outcome c.args.outcome block.result c.args.place
    (block.ensures.count c.args.labels first.label first.outcome c.args.outcome)
    block.ensures.some c.requires.first_label c.requires.place (omega arith)).label_in

pub returns-then-skipped-first : goal.returns-then-skipped-first
returns-then-skipped-first c =
    let n = c.args.labels in
    let first = c.args.first in
    let k = c.args.kind in
    let o = c.args.outcome in
    let block = c.trap_pair_count-block in
    let landing = landing-before n k first.label first.outcome o block.result c.args.place
    (block.ensures.count n first.label first.outcome o) block.ensures.some c.requires.first_label (omega arith) in
    at_piece (upto n (trap_of n k first.label first.outcome o)) (trap_pair n k first.label first.outcome o (c.args.place / block.result))
    c.args.place (c.args.place % block.result) _ landing.there c.trap_pair_clause.ensures

pub returns-else-skipped-first : goal.returns-else-skipped-first
returns-else-skipped-first c =
    let n = c.args.labels in
    let first = c.args.first in
    let k = c.args.kind in
    let o = c.args.outcome in
    let block = c.trap_pair_count-block in
    let landing = landing-after n k first.label first.outcome o block.result c.args.place
    (block.ensures.count n first.label first.outcome o) block.ensures.some c.requires.first_label c.requires.place (omega arith) in
    at_piece (upto n (trap_of n k first.label first.outcome o))
    (trap_pair n k first.label first.outcome o (c.args.place / block.result + 1)) c.args.place (c.args.place % block.result)
    _ landing.there c.trap_pair_clause-else-skipped-first.ensures
