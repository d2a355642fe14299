use Rattle.bus_bench.proofs.Runs.{law}
use Rattle.bus_bench.proofs.laws.chip_matches_flow.Goals as goal

pub returns : goal.returns
returns c = law
