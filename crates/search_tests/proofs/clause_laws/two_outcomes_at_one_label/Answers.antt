use Rattle.clause_base.proofs.ExampleLemmas.{two_outcomes_refuted}
use Rattle.search_tests.proofs.clause_laws.two_outcomes_at_one_label.Goals as goal

pub returns-clause-refutes : goal.returns-clause-refutes
returns-clause-refutes c = two_outcomes_refuted
