use Rattle.std.proofs.Common.{◌≡◌, ◌<◌, ◌-◌, ◌∙◌, ap, sym, subst, arith, length, ℕ, get_or}
use Rattle.flow_graph.specs.Graph.{graph_of}
use Rattle.placement_clauses.specs.Upto.{upto}
use Rattle.placement_clauses.specs.Clauses.{clauses_of}
use Rattle.placement_clauses.proofs.PinLemmas.{few-pins_of}
use Rattle.clause_encode.specs.Blocks.{AreEnds, block_clauses, block_count, numbered_block}
use Rattle.clause_encode.proofs.PlaceLemmas.{at_same, at_block, lits_at}
use Rattle.clause_encode.proofs.BlockLemmas.{blocks_are_clauses, IsFound, found_at, last_end}
use Rattle.clause_encode.proofs.block_ends.BlockEnds.clause.Goals as goal

pub first_above-found-requires-clause-some : goal.first_above-found-requires-clause-some
first_above-found-requires-clause-some c =
    let are : AreEnds (graph_of c.args.program.now) c.as_slice-ends.result.now =
    subst (AreEnds (graph_of c.args.program.now)) (sym (c.as_slice-ends.ensures.value ∙ c.self.view_is)) c.requires.ends in
    omega (arith, are.count)

pub first_above-found-requires-clause-last : goal.first_above-found-requires-clause-last
first_above-found-requires-clause-last c =
    let are : AreEnds (graph_of c.args.program.now) c.as_slice-ends.result.now =
    subst (AreEnds (graph_of c.args.program.now)) (sym (c.as_slice-ends.ensures.value ∙ c.self.view_is)) c.requires.ends in
    let last : get_or c.as_slice-ends.result.now (length c.as_slice-ends.result.now - 1) 0 ≡ length
    (clauses_of (graph_of c.args.program.now)) = last_end (graph_of c.args.program.now) c.as_slice-ends.result.now are in
    omega (arith, c.requires.number, c.requires.above)

pub overflow_sub-left : goal.overflow_sub-left
overflow_sub-left c =
    let g = graph_of c.args.program.now in
    let ends = c.as_slice-ends.result.now in
    let are : AreEnds g ends = subst (AreEnds g) (sym (c.as_slice-ends.ensures.value ∙ c.self.view_is)) c.requires.ends in
    let found : IsFound g (c.args.number - 1) c.first_above-found.result c.clauses_before.result =
    found_at g ends (c.args.number - 1)
    c.first_above-found.result c.clauses_before.result are c.first_above-found.ensures.within c.clauses_before.ensures.first
    c.clauses_before.ensures.later c.first_above-found.ensures.before c.first_above-found.ensures.above in
    found.below

pub overflow_cast-found : goal.overflow_cast-found
overflow_cast-found c =
    let are : AreEnds (graph_of c.args.program.now) c.as_slice-ends.result.now =
    subst (AreEnds (graph_of c.args.program.now)) (sym (c.as_slice-ends.ensures.value ∙ c.self.view_is)) c.requires.ends in
    let labels = c.args.program.now.valid.cells_for_all in
    let pins = few-pins_of c.args.program.now in
    omega (arith, are.count, labels, pins)

pub block_at-requires : goal.block_at-requires
block_at-requires c =
    let g = graph_of c.args.program.now in
    let ends = c.as_slice-ends.result.now in
    let are : AreEnds g ends = subst (AreEnds g) (sym (c.as_slice-ends.ensures.value ∙ c.self.view_is)) c.requires.ends in
    let found : IsFound g (c.args.number - 1) c.first_above-found.result c.clauses_before.result =
    found_at g ends (c.args.number - 1)
    c.first_above-found.result c.clauses_before.result are c.first_above-found.ensures.within c.clauses_before.ensures.first
    c.clauses_before.ensures.later c.first_above-found.ensures.before c.first_above-found.ensures.above in
    found.number_in

pub clause-requires-clause-place : goal.clause-requires-clause-place
clause-requires-clause-place c =
    let g = graph_of c.args.program.now in
    let ends = c.as_slice-ends.result.now in
    let are : AreEnds g ends = subst (AreEnds g) (sym (c.as_slice-ends.ensures.value ∙ c.self.view_is)) c.requires.ends in
    let found : IsFound g (c.args.number - 1) c.first_above-found.result c.clauses_before.result =
    found_at g ends (c.args.number - 1)
    c.first_above-found.result c.clauses_before.result are c.first_above-found.ensures.within c.clauses_before.ensures.first
    c.clauses_before.ensures.later c.first_above-found.ensures.before c.first_above-found.ensures.above in
    subst (λ (m : ℕ). c.args.number - 1 - c.clauses_before.result < m) (ap length (sym c.block_at.ensures.clauses)) found.within

pub returns : goal.returns
returns c =
    let g = graph_of c.args.program.now in
    let ends = c.as_slice-ends.result.now in
    let are : AreEnds g ends = subst (AreEnds g) (sym (c.as_slice-ends.ensures.value ∙ c.self.view_is)) c.requires.ends in
    let found : IsFound g (c.args.number - 1) c.first_above-found.result c.clauses_before.result =
    found_at g ends (c.args.number - 1)
    c.first_above-found.result c.clauses_before.result are c.first_above-found.ensures.within c.clauses_before.ensures.first
    c.clauses_before.ensures.later c.first_above-found.ensures.before c.first_above-found.ensures.above in
    let number = c.first_above-found.result in
    let place = c.args.number - 1 in
    let left = place - c.clauses_before.result in
    lits_at c.lits.result (λ x. x.items) (clauses_of g) place c.clause.result
    (at_same (clauses_of g) (upto (block_count g) (numbered_block g)) place _ (sym (blocks_are_clauses g))
    (at_block (block_count g) (numbered_block g) number place left _ (omega (arith, found.front, found.below))
    found.number_in found.within
    (at_same (numbered_block g number) (block_clauses g c.block_at.result) left _ (sym c.block_at.ensures.clauses) c.clause.ensures)))
    c.lits.ensures
