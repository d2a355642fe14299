-- A placement is legal exactly where the tests of the pins and of each label told so.
use Rattle.flow_graph.specs.Graph.{graph_of}
use Rattle.place_model.proofs.LegalLemmas.{IsLegal-from_faultless}
use Rattle.place_model.proofs.legality.legal.Goals as goal

pub returns-in-None : goal.returns-in-None
returns-in-None c = (
  λ kept. IsLegal-from_faultless (graph_of c.args.program.now) c.args.placement.now c.requires c.args.program.now.valid.start_in_range
      (c.keeps_pins.ensures.0 kept) c.in-None.ensures.none,
  λ legal. c.keeps_pins.ensures.1 legal.pins_kept,
)
