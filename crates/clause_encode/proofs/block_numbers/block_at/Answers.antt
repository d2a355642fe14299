use Rattle.std.proofs.Common.{◌-◌, ◌∙◌, sym, length}
use Rattle.flow_graph.specs.Graph.{graph_of}
use Rattle.placement_clauses.specs.Upto.{joined}
use Rattle.placement_clauses.specs.Clauses.{cell_clauses, apart_from_earlier}
use Rattle.placement_clauses.proofs.JoinedLemmas.{joined-front, joined-back}
use Rattle.clause_encode.specs.Blocks.{given_block}
use Rattle.clause_encode.proofs.block_numbers.block_at.Goals as goal

pub returns-then-number-labels-clause-clauses : goal.returns-then-number-labels-clause-clauses
returns-then-number-labels-clause-clauses c =
    let g = graph_of c.args.program.now in
    let n = length g.instrs in
    let labels = c.from-labels.ensures ∙ c.len.ensures in
    sym (joined-front n c.from-labels.result c.args.number cell_clauses (joined n (apart_from_earlier n) (given_block g))
    labels c.if-number-labels.true)

pub returns-then-left-labels-clause-clauses : goal.returns-then-left-labels-clause-clauses
returns-then-left-labels-clause-clauses c =
    let g = graph_of c.args.program.now in
    let n = length g.instrs in
    let labels = c.from-labels.ensures ∙ c.len.ensures in
    let left = c.args.number - c.from-labels.result in
    sym (joined-back n c.from-labels.result c.args.number cell_clauses (joined n (apart_from_earlier n) (given_block g))
    labels c.if-number-labels.false
    ∙ joined-front n c.from-labels.result left (apart_from_earlier n) (given_block g) labels c.if-left-labels.true)

pub returns-else-left-labels-clause-clauses : goal.returns-else-left-labels-clause-clauses
returns-else-left-labels-clause-clauses c =
    let g = graph_of c.args.program.now in
    let n = length g.instrs in
    let labels = c.from-labels.ensures ∙ c.len.ensures in
    let left = c.args.number - c.from-labels.result in
    c.given_block_at.ensures.clauses
    ∙ sym (joined-back n c.from-labels.result c.args.number cell_clauses (joined n (apart_from_earlier n) (given_block g))
    labels c.if-number-labels.false
    ∙ joined-back n c.from-labels.result left (apart_from_earlier n) (given_block g) labels c.if-left-labels.false)
