use Rattle.std.proofs.Common.{◌∙◌, ap, sym, length}
use Rattle.placement_clauses.specs.Upto.{each_of}
use Rattle.placement_clauses.specs.FirstLabel.{first_real, first_label}
use Rattle.placement_clauses.specs.Clauses.{trap_outcome, trap_clauses}
use Rattle.clause_encode.proofs.traps.instr_traps_count.Goals as goal

pub returns-clause-count : goal.returns-clause-count
unfolding trap_clauses
returns-clause-count c =
    let targets = c.as_slice-targets.ensures in
    let label = c.first_label_of.ensures.label ∙ ap first_label targets in
    let outcome = c.first_label_of.ensures.outcome ∙ ap first_real targets in
    sym (λ i. length (each_of (targets i) (trap_outcome c.args.labels c.args.instr.now.kind (label i) (outcome i))))
    ∙ c.traps_count.ensures.count
