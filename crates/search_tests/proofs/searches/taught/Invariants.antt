use Rattle.clause_base.specs.Truth.{lits_of, AreSettled}
use Rattle.search_tests.proofs.searches.taught.Given as goal

abbrev pub invariant-loop-number : goal.invariant-loop-number
invariant-loop-number l = AreSettled (lits_of l.board.trail.entries) l.board.list.clauses
