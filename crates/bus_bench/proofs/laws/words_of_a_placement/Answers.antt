use Rattle.bus_bench.proofs.Held.{no_bad_shift}
use Rattle.bus_bench.proofs.laws.words_of_a_placement.Goals as goal

pub returns-clause-no_bad_shift : goal.returns-clause-no_bad_shift
returns-clause-no_bad_shift c = no_bad_shift
