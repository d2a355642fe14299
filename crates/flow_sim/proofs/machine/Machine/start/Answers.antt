use Rattle.std.proofs.Common.{refl, arith}
use Rattle.flow_sim.specs.Machine.{start_machine}
use Rattle.flow_sim.proofs.StartFits.{zero_below, first_words_length}
use Rattle.flow_sim.proofs.machine.Machine.start.Goals as goal

pub returns-clause-start : goal.returns-clause-start
unfolding start_machine
returns-clause-start c = rw c.in_ok-memory.ensures.words refl

pub returns-clause-fits : goal.returns-clause-fits
returns-clause-fits c = λ slices h. record {
  registers = zero_below slices;
  words = rw c.in_ok-memory.ensures.words (first_words_length c.args.script.now 4096);
  memory = c.in_ok-memory.ensures.fits slices h;
  pr = omega arith;
}
