use Rattle.clause_base.proofs.ExampleLemmas.{no_line_spent}
use Rattle.search_tests.proofs.clause_laws.clash_after_one_decision.Goals as goal

pub returns : goal.returns
returns c = no_line_spent
