use Rattle.std.proofs.Common.{ap, ◌∙◌, arith}
use Rattle.field_decl.specs.KBits.{spread_of}
use Rattle.flow_sim.proofs.OrderFits.{four_pow}
use Rattle.bus_bench.proofs.Orders.{spread_zero}
use Rattle.bus_bench.proofs.bench.order_by.Goals as goal

pub returns-clause-fits : goal.returns-clause-fits
returns-clause-fits c = λ unmasked.
    record {
      mask = omega (arith, c.spread.ensures.below, four_pow c.args.decl.now.slices);
      shift = λ shift. c.spread.ensures.mask ∙ ap (spread_of c.args.decl.now) (unmasked shift) ∙ spread_zero _ c.args.decl.now.kbus;
    }
