use Rattle.std.proofs.Common.{◌≡◌, ◌+◌, length}
use Rattle.flow_graph.specs.Graph.{graph_of}
use Rattle.placement_clauses.specs.Upto.{upto}
use Rattle.clause_encode.specs.Blocks.{numbered_block}
use Rattle.clause_encode.proofs.numbered.clause_shape_at.Given as goal

-- the place is in the blocks to come
abbrev pub invariant-loop-number : goal.invariant-loop-number
invariant-loop-number l = length (upto l.number (numbered_block (graph_of l.program))) + l.left ≡ l.place
