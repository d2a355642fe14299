use Rattle.bus_script.proofs.ScriptFits.{idle_fits}
use Rattle.bus_script.proofs.script.at.Goals as goal

pub returns-in-None-clause-fits : goal.returns-in-None-clause-fits
returns-in-None-clause-fits c = λ slices _. idle_fits slices
