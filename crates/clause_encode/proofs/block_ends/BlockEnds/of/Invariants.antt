use Rattle.std.proofs.Common.{◌≡◌, ℕ, ◌+◌, ◌<◌, length, get_or}
use Rattle.flow_graph.specs.Graph.{graph_of}
use Rattle.placement_clauses.specs.Upto.{upto}
use Rattle.clause_encode.specs.Blocks.{numbered_block}
use Rattle.clause_encode.proofs.block_ends.BlockEnds.of.Given as goal

-- the ends of the blocks so far
abbrev pub invariant-loop-number : goal.invariant-loop-number
invariant-loop-number l = record {
  count : length l.items.items ≡ l.number;
  last : length (upto l.number (numbered_block (graph_of l.program))) ≡ l.end;
  each : (k : ℕ) → k < l.number → get_or l.items.items k 0 ≡ length (upto (k + 1) (numbered_block (graph_of l.program)));
}
