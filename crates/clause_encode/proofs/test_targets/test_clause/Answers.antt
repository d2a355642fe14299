use Rattle.std.proofs.Common.{◌≡◌, ◌<◌, ◌+◌, ◌-◌, ap, sym, subst, refl, arith, length, ℕ}
use Rattle.placement_clauses.specs.Upto.{each_of}
use Rattle.placement_clauses.specs.FirstLabel.{first_real, first_label}
use Rattle.placement_clauses.specs.Clauses.{reach_clauses, target_clauses, test_clauses}
use Rattle.placement_clauses.proofs.CountLemmas.{length-reach, length-test}
use Rattle.placement_clauses.proofs.NumberedLemmas.{reach-at}
use Rattle.clause_encode.specs.declared.clause_shape.ClauseShape.TheVariants.{Reach}
use Rattle.clause_encode.proofs.PlaceLemmas.{at_lits, at_same, at_front, at_back}
use Rattle.clause_encode.proofs.test_targets.test_clause.Goals as goal

pub targets_clause-requires-clause-place : goal.targets_clause-requires-clause-place
targets_clause-requires-clause-place c =
    let kind = c.args.kind in
    let ts = c.args.targets.now in
    let outcome = c.first_label_of-first.ensures.outcome in
    let label = c.first_label_of-first.ensures.label in
    let same : length (each_of ts
    (target_clauses kind c.args.source c.first_label_of-first.result.outcome c.first_label_of-first.result.label)) ≡ length
    (each_of ts (target_clauses kind c.args.source (first_real ts) (first_label ts))) =
    λ i. length (each_of ts (target_clauses kind c.args.source (outcome i) (label i))) in
    let whole : length (test_clauses kind c.args.source ts (first_real ts) (first_label ts)) ≡ 32 + length
    (each_of ts (target_clauses kind c.args.source (first_real ts) (first_label ts))) =
    length-test kind c.args.source ts (first_real ts) (first_label ts) _ refl in
    subst (λ (m : ℕ). c.args.place - 32 < m) (sym same) (omega (arith, c.requires.place))

pub returns-then-place-lt32 : goal.returns-then-place-lt32
returns-then-place-lt32 c =
    let kind = c.args.kind in
    let ts = c.args.targets.now in
    let rows = reach_clauses kind c.args.source (first_label ts) in
    let long : length rows ≡ 32 = length-reach kind c.args.source (first_label ts) in
    let below : c.first_label_of-first.result.label < 512 =
    c.requires.targets c.first_label_of-first.result.outcome c.first_label_of-first.result.label c.first_label_of-first.ensures.there
    in
    at_front rows (each_of ts (target_clauses kind c.args.source (first_real ts) (first_label ts))) c.args.place _ (omega arith)
    (at_same rows (reach_clauses kind c.args.source c.first_label_of-first.result.label) c.args.place _
    (sym (ap (reach_clauses kind c.args.source) c.first_label_of-first.ensures.label))
    (at_lits (reach_clauses kind c.args.source c.first_label_of-first.result.label) c.args.place _
    (Reach kind c.args.source c.first_label_of-first.result.label c.args.place)
    (reach-at kind c.args.source c.first_label_of-first.result.label c.args.place (omega arith)) refl (omega arith, below, omega arith)))

pub returns-else-place-lt32 : goal.returns-else-place-lt32
returns-else-place-lt32 c =
    let kind = c.args.kind in
    let ts = c.args.targets.now in
    let outcome = c.first_label_of-first.ensures.outcome in
    let label = c.first_label_of-first.ensures.label in
    let rows = reach_clauses kind c.args.source (first_label ts) in
    let rest = each_of ts (target_clauses kind c.args.source (first_real ts) (first_label ts)) in
    let long : length rows ≡ 32 = length-reach kind c.args.source (first_label ts) in
    at_back rows rest c.args.place (c.args.place - 32) _ (omega arith)
    (at_same rest (each_of ts
    (target_clauses kind c.args.source c.first_label_of-first.result.outcome c.first_label_of-first.result.label)) (c.args.place - 32)
    _
    (sym (λ i. each_of ts (target_clauses kind c.args.source (outcome i) (label i)))) c.targets_clause.ensures)
