use Rattle.std.proofs.Common.{subst, Bool, List}
use Rattle.clause_base.specs.Clauses.{Clauses}
use Rattle.clause_base.specs.TruthValues.{AllHold, truth_in}
use Rattle.search_tests.proofs.model_tables.placed.Goals as goal

pub place_of-requires-clause-holds : goal.place_of-requires-clause-holds
place_of-requires-clause-holds c =
    subst (λ (list : Clauses). AllHold (truth_in c.args.model.now) list.clauses) c.in_ok-list.ensures.clauses
    (subst (λ (values : List Bool). AllHold (truth_in values) c.in_ok-list.list.clauses) c.as_slice-values.ensures
    (c.all_hold.ensures c.if-all_hold.true))
