use Rattle.std.proofs.Common.{◌∙◌, ap, length, ℕ, Option}
use Rattle.placement_clauses.specs.Clauses.{trap_outcome}
use Rattle.placement_clauses.proofs.CountLemmas.{length-free_landing}
use Rattle.clause_encode.proofs.traps.trap_outcome_count.Goals as goal

pub returns-in-None-clause-count : goal.returns-in-None-clause-count
returns-in-None-clause-count c = λ o.
    let n = c.args.labels in
    let first = c.args.first in
    ap (λ (t : Option ℕ). length (trap_outcome n c.args.kind first.label first.outcome o t)) c.in-None.is
    ∙ length-free_landing n c.args.kind first.label first.outcome o c.trap_pair_count.result
    (λ z. c.trap_pair_count.ensures.count n first.label first.outcome o z) c.requires.first
