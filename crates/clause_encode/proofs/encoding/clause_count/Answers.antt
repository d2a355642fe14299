use Rattle.std.proofs.Common.{◌≡◌, ◌+◌, ◌∙◌, ap, sym, arith, length}
use Rattle.flow_graph.specs.Graph.{graph_of}
use Rattle.placement_clauses.proofs.UptoLemmas.{upto-none}
use Rattle.placement_clauses.proofs.LengthLemmas.{length-more}
use Rattle.placement_clauses.proofs.FewClauses.{few_clauses}
use Rattle.clause_encode.specs.Blocks.{numbered_block}
use Rattle.clause_encode.proofs.BlockLemmas.{front_fits, whole_fits}
use Rattle.clause_encode.proofs.encoding.clause_count.Goals as goal

pub loop-number-init : goal.loop-number-init
loop-number-init c = ap length (upto-none (numbered_block (graph_of c.args.program.now)))

pub overflow_add-count : goal.overflow_add-count
overflow_add-count c =
    let g = graph_of c.args.program.now in
    let block : length (numbered_block g c.loop-number.number) ≡ c.count-count.result = ap length (sym c.block_at.ensures.clauses)
    ∙ c.count-count.ensures in
    let fits = front_fits g c.loop-number.number (omega arith) in
    let few = few_clauses c.args.program.now in
    omega (arith, c.loop-number.invariant, fits, few)

pub loop-number-preserved : goal.loop-number-preserved
loop-number-preserved c =
    let g = graph_of c.args.program.now in
    let block : length (numbered_block g c.loop-number.number) ≡ c.count-count.result = ap length (sym c.block_at.ensures.clauses)
    ∙ c.count-count.ensures in
    length-more c.loop-number.number (numbered_block g) ∙ (λ i. c.loop-number.invariant i + block i)

pub returns-clause-count : goal.returns-clause-count
returns-clause-count c = sym c.loop-number.invariant ∙ whole_fits (graph_of c.args.program.now) c.loop-number.number (omega arith)

pub returns-clause-few : goal.returns-clause-few
returns-clause-few c =
    let all = returns-clause-count c in
    let few = few_clauses c.args.program.now in
    omega (arith, all, few)
