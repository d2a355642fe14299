use Rattle.flow_graph.specs.Graph.{graph_of}
use Rattle.place_model.specs.Faults.{IsFaultlessBelow}
use Rattle.place_model.proofs.legality.first_fault.Given as goal

-- nothing is wrong at the labels so far
abbrev pub invariant-loop-label : goal.invariant-loop-label
invariant-loop-label l = IsFaultlessBelow (graph_of l.program) l.placement l.label
