use Rattle.std.proofs.Common.{◌≡◌, ◌-◌, ◌∙◌, ap, sym, arith}
use Rattle.std.specs.Prelude.{slice_get}
use Rattle.placement_clauses.specs.Shape.{any_of, no_two}
use Rattle.placement_clauses.specs.Clauses.{cell_clauses}
use Rattle.placement_clauses.proofs.LengthLemmas.{cell-at_rows, cell-at_cols, cell-at_row_pair, cell-at_col_pair}
use Rattle.clause_encode.specs.declared.clause_shape.ClauseShape.TheVariants.{AnyOf}
use Rattle.clause_encode.proofs.PlaceLemmas.{at_lits, at_piece}
use Rattle.clause_encode.proofs.cells.cell_clause.Goals as goal

pub returns-then-place-eq0 : goal.returns-then-place-eq0
returns-then-place-eq0 c =
    let at : c.args.place ≡ 0 = omega arith in
    at_lits (cell_clauses c.args.label) c.args.place _ (AnyOf _ _)
    (ap (slice_get (cell_clauses c.args.label)) at ∙ cell-at_rows c.args.label) (ap (any_of 32) c.row_var-rows.ensures)
    (omega arith, omega arith)

pub returns-then-place-eq1 : goal.returns-then-place-eq1
returns-then-place-eq1 c =
    let at : c.args.place ≡ 1 = omega arith in
    at_lits (cell_clauses c.args.label) c.args.place _ (AnyOf _ _)
    (ap (slice_get (cell_clauses c.args.label)) at ∙ cell-at_cols c.args.label) (ap (any_of 16) c.col_var-cols.ensures)
    (omega arith, omega arith)

pub returns-then-place-lt498 : goal.returns-then-place-lt498
returns-then-place-lt498 c =
    let piece = cell-at_row_pair c.args.label (c.args.place - 2) c.args.place (omega arith) (omega arith) in
    at_piece (cell_clauses c.args.label) (no_two 32 c.row_var-rows.result) c.args.place (c.args.place - 2) _
    (piece ∙ ap (λ v. slice_get (no_two 32 v) (c.args.place - 2)) (sym c.row_var-rows.ensures)) c.no_two_clause.ensures

pub returns-else-place-lt498 : goal.returns-else-place-lt498
returns-else-place-lt498 c =
    let piece = cell-at_col_pair c.args.label (c.args.place - 498) c.args.place (omega arith) in
    at_piece (cell_clauses c.args.label) (no_two 16 c.col_var-cols.result) c.args.place (c.args.place - 498) _
    (piece ∙ ap (λ v. slice_get (no_two 16 v) (c.args.place - 498)) (sym c.col_var-cols.ensures))
    c.no_two_clause-else-place-lt498.ensures
