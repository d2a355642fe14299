use Rattle.std.proofs.Common.{◌≡◌, ◌+◌, ◌∙◌, ap, sym, arith, length}
use Rattle.flow_graph.specs.Graph.{graph_of}
use Rattle.placement_clauses.specs.Upto.{upto}
use Rattle.placement_clauses.specs.Clauses.{clauses_of}
use Rattle.placement_clauses.proofs.UptoLemmas.{upto-none}
use Rattle.placement_clauses.proofs.LengthLemmas.{length-more}
use Rattle.clause_encode.specs.Blocks.{block_clauses, block_count, numbered_block}
use Rattle.clause_encode.proofs.PlaceLemmas.{at_same, at_block}
use Rattle.clause_encode.proofs.BlockLemmas.{blocks_are_clauses, whole_fits}
use Rattle.clause_encode.proofs.numbered.clause_shape_at.Goals as goal

pub loop-number-init : goal.loop-number-init
loop-number-init c =
    let none : length (upto 0 (numbered_block (graph_of c.args.program.now))) ≡ 0 =
    ap length (upto-none (numbered_block (graph_of c.args.program.now))) in
    omega arith

pub returns-then-left-count : goal.returns-then-left-count
returns-then-left-count c =
    let g = graph_of c.args.program.now in
    let number = c.loop-number.number in
    let block = c.block_at-block.ensures.clauses in
    let long : length (numbered_block g number) ≡ c.count-count.result = ap length (sym block) ∙ c.count-count.ensures in
    at_same (clauses_of g) (upto (block_count g) (numbered_block g)) c.args.place _ (sym (blocks_are_clauses g))
    (at_block (block_count g) (numbered_block g) number c.args.place c.loop-number.left _ c.loop-number.invariant (omega arith)
    (omega arith)
    (at_same (numbered_block g number) (block_clauses g c.block_at-block.result) c.loop-number.left _ (sym block) c.clause.ensures))

pub loop-number-preserved : goal.loop-number-preserved
loop-number-preserved c =
    let g = graph_of c.args.program.now in
    let number = c.loop-number.number in
    let long : length (numbered_block g number) ≡ c.count-count.result = ap length (sym c.block_at-block.ensures.clauses)
    ∙ c.count-count.ensures in
    let more : length (upto (number + 1) (numbered_block g)) ≡ length (upto number (numbered_block g)) + length
    (numbered_block g number) = length-more number (numbered_block g) in
    omega (arith, c.loop-number.invariant)

pub unreachable-requires : goal.unreachable-requires
unreachable-requires c =
    let whole = whole_fits (graph_of c.args.program.now) c.loop-number.number (omega arith) in
    omega (arith, c.loop-number.invariant, whole, c.requires)
