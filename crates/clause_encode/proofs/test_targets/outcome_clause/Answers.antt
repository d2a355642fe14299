use Rattle.std.proofs.Common.{◌≡◌, ◌+◌, ◌-◌, ◌∙◌, ◌++◌, [], ◌∷◌, ap, arith, length}
use Rattle.placement_clauses.specs.Number.{plus, minus, row_var}
use Rattle.placement_clauses.specs.Shape.{same}
use Rattle.placement_clauses.specs.Clauses.{col_clauses, outcome_clauses}
use Rattle.placement_clauses.proofs.CountLemmas.{length-same, length-outcome_other}
use Rattle.placement_clauses.proofs.NumberedLemmas.{same-at, outcome-other}
use Rattle.clause_encode.specs.declared.clause_shape.ClauseShape.TheVariants.{Two}
use Rattle.clause_encode.proofs.PlaceLemmas.{at_lits, at_same, at_front, at_back}
use Rattle.clause_encode.proofs.test_targets.outcome_clause.Goals as goal

pub cols_clause-requires-else-place-lt32-clause-place : goal.cols_clause-requires-else-place-lt32-clause-place
cols_clause-requires-else-place-lt32-clause-place c =
    let first = c.args.first in
    let whole : length (outcome_clauses c.args.kind c.args.source first.outcome first.label c.args.outcome c.args.label) ≡ 32 + length
    (col_clauses c.args.kind c.args.source c.args.outcome c.args.label) =
    length-outcome_other c.args.kind c.args.source first.outcome first.label c.args.outcome c.args.label c.if-outcome-first.false in
    omega (arith, c.requires.place)

pub returns-then-place-lt32 : goal.returns-then-place-lt32
returns-then-place-lt32 c =
    let first = c.args.first in
    let rows = same 32 (row_var first.label 0) (row_var c.args.label 0) in
    let cols = col_clauses c.args.kind c.args.source c.args.outcome c.args.label in
    let long : length rows ≡ 32 = length-same 32 (row_var first.label 0) (row_var c.args.label 0) in
    let from = c.negative.ensures ∙ ap (λ v. minus (v + c.args.place)) c.row_var.ensures in
    let to = c.positive.ensures ∙ ap (λ v. plus (v + c.args.place)) c.row_var-then-place-lt32.ensures in
    at_same (outcome_clauses c.args.kind c.args.source first.outcome first.label c.args.outcome c.args.label) (rows ++ cols)
    c.args.place _
    (outcome-other c.args.kind c.args.source first.outcome first.label c.args.outcome c.args.label c.if-outcome-first.false)
    (at_front rows cols c.args.place _ (omega arith)
    (at_lits rows c.args.place _ (Two _ _) (same-at 32 (row_var first.label 0) (row_var c.args.label 0) c.args.place (omega arith))
    (λ k. from k ∷ to k ∷ []) tt))

pub returns-else-place-lt32 : goal.returns-else-place-lt32
returns-else-place-lt32 c =
    let first = c.args.first in
    let rows = same 32 (row_var first.label 0) (row_var c.args.label 0) in
    let cols = col_clauses c.args.kind c.args.source c.args.outcome c.args.label in
    let long : length rows ≡ 32 = length-same 32 (row_var first.label 0) (row_var c.args.label 0) in
    at_same (outcome_clauses c.args.kind c.args.source first.outcome first.label c.args.outcome c.args.label) (rows ++ cols)
    c.args.place _
    (outcome-other c.args.kind c.args.source first.outcome first.label c.args.outcome c.args.label c.if-outcome-first.false)
    (at_back rows cols c.args.place (c.args.place - 32) _ (omega arith) c.cols_clause-else-place-lt32.ensures)
