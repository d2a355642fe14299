use Rattle.std.proofs.Common.{take}
use Rattle.flow_graph.specs.Graph.{graph_of}
use Rattle.clause_encode.specs.Adds.{Adds}
use Rattle.clause_encode.specs.Blocks.{block_clauses}
use Rattle.clause_encode.proofs.encoding.add_block.Given as goal

-- the clauses of the block so far
abbrev pub invariant-loop-place : goal.invariant-loop-place
invariant-loop-place l = Adds l.initial.list l.list (take l.place (block_clauses (graph_of l.program) l.block))
