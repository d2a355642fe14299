use Rattle.std.proofs.Common.{◌≡◌, ◌≤◌, ◌+◌, ◌-◌, ◌∙◌, [], ◌∷◌, ap, arith, ℕ}
use Rattle.std.specs.Prelude.{slice_get}
use Rattle.placement_clauses.specs.Number.{plus, minus}
use Rattle.placement_clauses.specs.Clauses.{goto_clauses}
use Rattle.placement_clauses.proofs.NumberedLemmas.{goto-at_col, goto-at_zero, goto-at_low, goto-at_row}
use Rattle.clause_encode.specs.declared.clause_shape.ClauseShape.TheVariants.{Two, Three}
use Rattle.clause_encode.proofs.PlaceLemmas.{at_lits}
use Rattle.clause_encode.proofs.flows.goto_clause.Goals as goal

pub returns-then-place-lt17 : goal.returns-then-place-lt17
returns-then-place-lt17 c =
    let list = goto_clauses c.args.labels c.args.source c.args.target in
    let k = c.args.place - 1 in
    let at : c.args.place ≡ 1 + k = omega arith in
    let way = c.negative.ensures ∙ ap minus c.way_var-within_col.ensures in
    let from = c.negative-then-place-lt17.ensures ∙ ap (λ v. minus (v + k)) c.col_var.ensures in
    let to = c.positive-then-place-lt17.ensures ∙ ap (λ v. plus (v + k)) c.col_var-then-place-lt17.ensures in
    at_lits list c.args.place _ (Three _ _ _)
    (ap (slice_get list) at ∙ goto-at_col c.args.labels c.args.source c.args.target k (omega arith)) (λ i. way i ∷ from i ∷ to i ∷ [])
    tt

pub returns-then-place-eq17 : goal.returns-then-place-eq17
returns-then-place-eq17 c =
    let list = goto_clauses c.args.labels c.args.source c.args.target in
    let at : c.args.place ≡ 17 = omega arith in
    let way = c.negative-then-place-eq17.ensures ∙ ap minus c.way_var-to_row_0.ensures in
    let to = c.positive-then-place-eq17.ensures ∙ ap plus c.row_var.ensures in
    at_lits list c.args.place _ (Two _ _) (ap (slice_get list) at ∙ goto-at_zero c.args.labels c.args.source c.args.target)
    (λ i. way i ∷ to i ∷ []) tt

pub returns-then-place-eq18 : goal.returns-then-place-eq18
returns-then-place-eq18 c =
    let list = goto_clauses c.args.labels c.args.source c.args.target in
    let at : c.args.place ≡ 18 = omega arith in
    let way = c.negative-then-place-eq18.ensures ∙ ap minus c.way_var-to_row_0.ensures in
    let not_strobe = c.negative-then-place-eq18-2.ensures ∙ ap minus c.col_var-then-place-eq18.ensures in
    at_lits list c.args.place _ (Two _ _) (ap (slice_get list) at ∙ goto-at_low c.args.labels c.args.source c.args.target)
    (λ i. way i ∷ not_strobe i ∷ []) tt

pub returns-else-place-eq18 : goal.returns-else-place-eq18
returns-else-place-eq18 c =
    let list = goto_clauses c.args.labels c.args.source c.args.target in
    let k = c.args.place - 19 in
    let at : c.args.place ≡ 19 + k = after c.args.place c.if-place-lt17.false c.if-place-eq17.false c.if-place-eq18.false in
    let way = c.negative-else-place-eq18.ensures ∙ ap minus c.way_var-within_row.ensures in
    let from = c.negative-else-place-eq18-2.ensures ∙ ap (λ v. minus (v + k)) c.row_var-else-place-eq18.ensures in
    let to = c.positive-else-place-eq18.ensures ∙ ap (λ v. plus (v + k)) c.row_var-else-place-eq18-2.ensures in
    at_lits list c.args.place _ (Three _ _ _)
    (ap (slice_get list) at ∙ goto-at_row c.args.labels c.args.source c.args.target k (omega arith)) (λ i. way i ∷ from i ∷ to i ∷ [])
    tt
  where
    after : (p : ℕ) → 17 ≤ p → (p ≡ 17 → ⊥) → (p ≡ 18 → ⊥) → p ≡ 19 + (p - 19)
    after p a b d = omega arith
