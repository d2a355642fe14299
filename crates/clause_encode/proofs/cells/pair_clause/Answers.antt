use Rattle.std.proofs.Common.{◌≡◌, ◌+◌, ◌-◌, ◌∙◌, [], ◌∷◌, ap, arith}
use Rattle.placement_clauses.specs.Number.{plus, minus, row_var, col_var, differ_var}
use Rattle.placement_clauses.specs.Clauses.{apart_clauses}
use Rattle.placement_clauses.proofs.LengthLemmas.{apart-at_row, apart-at_col}
use Rattle.clause_encode.specs.declared.clause_shape.ClauseShape.TheVariants.{Three}
use Rattle.clause_encode.proofs.PlaceLemmas.{at_lits}
use Rattle.clause_encode.proofs.cells.pair_clause.Goals as goal

pub returns-then-place-lt32 : goal.returns-then-place-lt32
returns-then-place-lt32 c =
    let first : c.negative.result ≡ minus (differ_var c.args.labels c.args.earlier c.args.later) = c.negative.ensures
    ∙ ap minus c.differ_var-differ.ensures in
    let second : c.negative-then-place-lt32.result ≡ minus (row_var c.args.earlier 0 + c.args.place) = c.negative-then-place-lt32.ensures
    ∙ ap (λ v. minus (v + c.args.place)) c.row_var.ensures in
    let third : c.negative-then-place-lt32-2.result ≡ minus (row_var c.args.later 0 + c.args.place) = c.negative-then-place-lt32-2.ensures
    ∙ ap (λ v. minus (v + c.args.place)) c.row_var-then-place-lt32.ensures in
    at_lits (apart_clauses c.args.labels c.args.later c.args.earlier) c.args.place _ (Three _ _ _)
    (apart-at_row c.args.labels c.args.later c.args.earlier c.args.place (omega arith)) (λ k. first k ∷ second k ∷ third k ∷ []) tt

pub returns-else-place-lt32 : goal.returns-else-place-lt32
returns-else-place-lt32 c =
    let k = c.args.place - 32 in
    let first : c.positive.result ≡ plus (differ_var c.args.labels c.args.earlier c.args.later) = c.positive.ensures
    ∙ ap plus c.differ_var-differ.ensures in
    let second : c.negative-else-place-lt32.result ≡ minus (col_var c.args.earlier 0 + k) = c.negative-else-place-lt32.ensures
    ∙ ap (λ v. minus (v + k)) c.col_var.ensures in
    let third : c.negative-else-place-lt32-2.result ≡ minus (col_var c.args.later 0 + k) = c.negative-else-place-lt32-2.ensures
    ∙ ap (λ v. minus (v + k)) c.col_var-else-place-lt32.ensures in
    at_lits (apart_clauses c.args.labels c.args.later c.args.earlier) c.args.place _ (Three _ _ _)
    (apart-at_col c.args.labels c.args.later c.args.earlier k c.args.place (omega arith) (omega arith))
    (λ j. first j ∷ second j ∷ third j ∷ []) tt
