use Rattle.std.proofs.Common.{◌+◌, ◌∙◌, ap}
use Rattle.placement_clauses.proofs.CountLemmas.{length-outcome_other}
use Rattle.clause_encode.proofs.test_targets.outcome_count.Goals as goal

pub returns-else-outcome-first-clause-count : goal.returns-else-outcome-first-clause-count
returns-else-outcome-first-clause-count c = λ s y.
    length-outcome_other c.args.kind s c.args.first.outcome c.args.first.label c.args.outcome y c.if-outcome-first.false
    ∙ ap (λ m. 32 + m) (c.cols_count-cols.ensures.count s c.args.outcome y)
