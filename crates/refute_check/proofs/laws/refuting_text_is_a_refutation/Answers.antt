use Rattle.refute_check.proofs.RefutationLaws.{refutes_text}
use Rattle.refute_check.proofs.laws.refuting_text_is_a_refutation.Goals as goal

pub returns : goal.returns
returns c = λ list bytes count is. refutes_text list bytes count is
