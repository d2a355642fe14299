use Rattle.refute_check.proofs.PrintedLemmas.{refutation_taken}
use Rattle.refute_check.proofs.laws.printed_refutations_are_taken.Goals as goal

pub returns : goal.returns
returns c = λ list lines few small refutes. refutation_taken list lines few small refutes
