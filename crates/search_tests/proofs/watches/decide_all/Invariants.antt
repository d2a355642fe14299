use Rattle.propagate.specs.Propagation.{Ends}
use Rattle.search_tests.proofs.watches.decide_all.Given as goal

abbrev pub invariant-loop-value : goal.invariant-loop-value
invariant-loop-value l = Ends l.board l.settled
