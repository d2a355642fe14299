use Rattle.std.proofs.Common.{◌≡◌, ◌+◌, ◌∙◌, ap, sym, arith, length}
use Rattle.flow_graph.specs.Graph.{graph_of}
use Rattle.placement_clauses.specs.Upto.{upto}
use Rattle.placement_clauses.proofs.UptoLemmas.{upto-none}
use Rattle.placement_clauses.proofs.LengthLemmas.{length-more}
use Rattle.placement_clauses.proofs.FewClauses.{few_clauses}
use Rattle.clause_encode.specs.Blocks.{numbered_block}
use Rattle.clause_encode.proofs.BlockLemmas.{front_fits, ends_more}
use Rattle.clause_encode.proofs.block_ends.BlockEnds.of.Goals as goal

pub loop-number-init : goal.loop-number-init
loop-number-init c = record {
  count = ap length c.new-items.ensures.items;
  last = ap length (upto-none (numbered_block (graph_of c.args.program.now)));
  each = λ k lt. absurd (omega arith);
}

pub overflow_add-end : goal.overflow_add-end
overflow_add-end c =
    let g = graph_of c.args.program.now in
    let block : length (numbered_block g c.loop-number.number) ≡ c.count-end.result = ap length (sym c.block_at.ensures.clauses)
    ∙ c.count-end.ensures in
    let fits = front_fits g c.loop-number.number (omega arith) in
    let few = few_clauses c.args.program.now in
    omega (arith, c.loop-number.invariant.last, fits, few)

pub loop-number-preserved : goal.loop-number-preserved
loop-number-preserved c =
    let g = graph_of c.args.program.now in
    let block : length (numbered_block g c.loop-number.number) ≡ c.count-end.result = ap length (sym c.block_at.ensures.clauses)
    ∙ c.count-end.ensures in
    let last : length (upto (c.loop-number.number + 1) (numbered_block g)) ≡ c.loop-number.end + c.count-end.result =
    length-more c.loop-number.number (numbered_block g) ∙ (λ i. c.loop-number.invariant.last i + block i) in
    record {
      count = omega (arith, c.in_ok-push.ensures.len, c.loop-number.invariant.count);
      last = last;
      each = ends_more g c.loop-number.items.items c.push.new.self.items c.loop-number.number (c.loop-number.end + c.count-end.result)
          c.loop-number.invariant.count c.in_ok-push.ensures.items last c.loop-number.invariant.each;
    }
