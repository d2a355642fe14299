use Rattle.flow_graph.specs.Graph.{graph_of}
use Rattle.placement_clauses.specs.Upto.{upto}
use Rattle.clause_encode.specs.Adds.{Adds}
use Rattle.clause_encode.specs.Blocks.{numbered_block}
use Rattle.clause_encode.proofs.encoding.encode.Given as goal

-- the clauses of the blocks so far
abbrev pub invariant-loop-number : goal.invariant-loop-number
invariant-loop-number l = Adds l.initial.list l.list (upto l.number (numbered_block (graph_of l.program)))
