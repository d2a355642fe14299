use Rattle.std.proofs.Common.{refl}
use Rattle.bus_script.proofs.ScriptFits.{some_words}
use Rattle.flow_sim.proofs.order_of.free_order.Goals as goal

pub returns-clause-fits : goal.returns-clause-fits
returns-clause-fits c = record { mask = some_words c.args.decl.now.slices; shift = λ _. refl }
