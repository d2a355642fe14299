use Rattle.flow_sim.proofs.OrderFits.{mask_below}
use Rattle.flow_sim.proofs.order_of.instr_order.Goals as goal

pub returns-clause-fits : goal.returns-clause-fits
returns-clause-fits c = record {
  mask = mask_below c.args.decl.now.slices c.args.decl.now.kbus c.args.instr.now.mask c.requires.kbits;
  shift = c.requires.shift;
}
