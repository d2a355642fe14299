-- The pinned cells are legal, or their first fault is told.
use Rattle.flow_graph.specs.Graph.{graph_of}
use Rattle.place_model.proofs.LegalLemmas.{IsLegal-from_faultless}
use Rattle.place_model.proofs.PinLemmas.{KeepsPins-from_pinned}
use Rattle.place_model.proofs.pinned_cells.pinned.Goals as goal

pub returns-in-None-clause-legal : goal.returns-in-None-clause-legal
returns-in-None-clause-legal c =
    let g = graph_of c.args.program.now in
    let valid = c.args.program.now.valid in
    let place = c.in_ok-placement.placement in
    let pinned = c.in_ok-placement.ensures.ok in
    IsLegal-from_faultless g place pinned.cell_for_each_label valid.start_in_range (KeepsPins-from_pinned g place valid pinned)
    c.in-None.ensures.none
