use Rattle.std.proofs.Common.{◌≡◌, length}
use Rattle.flow_graph.specs.Graph.{graph_of}
use Rattle.placement_clauses.specs.Upto.{upto}
use Rattle.clause_encode.specs.Blocks.{numbered_block}
use Rattle.clause_encode.proofs.encoding.clause_count.Given as goal

-- the clauses of the blocks so far
abbrev pub invariant-loop-number : goal.invariant-loop-number
invariant-loop-number l = length (upto l.number (numbered_block (graph_of l.program))) ≡ l.count
