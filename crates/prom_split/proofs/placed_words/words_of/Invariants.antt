use Rattle.flow_graph.specs.Graph.{graph_of}
use Rattle.prom_split.proofs.PlacedSteps.{Placed}
use Rattle.prom_split.proofs.placed_words.words_of.Given as goal

-- the words of the cells so far
abbrev pub invariant-loop-address : goal.invariant-loop-address
invariant-loop-address l = Placed (graph_of l.program) l.placement l.address l.words.items
