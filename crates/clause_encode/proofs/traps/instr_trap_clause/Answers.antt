use Rattle.std.proofs.Common.{◌≡◌, ◌<◌, ◌∙◌, ap, sym, subst, length, ℕ}
use Rattle.placement_clauses.specs.FirstLabel.{first_real, first_label}
use Rattle.placement_clauses.specs.Upto.{each_of}
use Rattle.placement_clauses.specs.Clauses.{trap_outcome, trap_clauses}
use Rattle.clause_encode.proofs.PlaceLemmas.{at_same}
use Rattle.clause_encode.proofs.traps.instr_trap_clause.Goals as goal

pub traps_clause-requires-clause-place : goal.traps_clause-requires-clause-place
unfolding trap_clauses
traps_clause-requires-clause-place c =
    let n = c.args.labels in
    let kind = c.args.instr.now.kind in
    let ts = c.args.instr.now.targets in
    let targets = c.as_slice-targets.ensures in
    let label = c.first_label_of-first.ensures.label ∙ ap first_label targets in
    let outcome = c.first_label_of-first.ensures.outcome ∙ ap first_real targets in
    let same : length (each_of c.as_slice-targets.result.now
    (trap_outcome n kind c.first_label_of-first.result.label c.first_label_of-first.result.outcome)) ≡ length
    (each_of ts (trap_outcome n kind (first_label ts) (first_real ts))) =
    λ i. length (each_of (targets i) (trap_outcome n kind (label i) (outcome i))) in
    subst (λ (m : ℕ). c.args.place < m) (sym same) c.requires.place

pub returns : goal.returns
unfolding trap_clauses
returns c =
    let n = c.args.labels in
    let kind = c.args.instr.now.kind in
    let targets = c.as_slice-targets.ensures in
    let label = c.first_label_of-first.ensures.label ∙ ap first_label targets in
    let outcome = c.first_label_of-first.ensures.outcome ∙ ap first_real targets in
    at_same (trap_clauses n kind c.args.instr.now.targets)
    (each_of c.as_slice-targets.result.now
    (trap_outcome n kind c.first_label_of-first.result.label c.first_label_of-first.result.outcome)) c.args.place _
    (sym (λ i. each_of (targets i) (trap_outcome n kind (label i) (outcome i)))) c.traps_clause.ensures
