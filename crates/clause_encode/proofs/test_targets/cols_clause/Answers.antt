use Rattle.std.proofs.Common.{◌≡◌, ◌∙◌, [], ◌∷◌, ap, sym, arith, length}
use Rattle.placement_clauses.specs.Number.{plus, minus, col_var}
use Rattle.std.specs.Prelude.{if◌then◌else◌}
use Rattle.placement_clauses.specs.Clauses.{col_clauses}
use Rattle.placement_clauses.proofs.CountLemmas.{length-cols}
use Rattle.placement_clauses.proofs.NumberedLemmas.{cols-at_half}
use Rattle.clause_encode.specs.declared.clause_shape.ClauseShape.TheVariants.{Two}
use Rattle.clause_encode.proofs.PlaceLemmas.{at_lits}
use Rattle.clause_encode.proofs.test_targets.cols_clause.Goals as goal

pub col_of-to-requires-clause-col : goal.col_of-to-requires-clause-col
col_of-to-requires-clause-col c =
    let half = sym c.keeps_half.ensures ∙ c.if-keeps_half.true in
    let long : length (col_clauses c.args.kind c.args.source c.args.outcome c.args.label) ≡ 16 =
    length-cols c.args.kind c.args.source c.args.outcome c.args.label ∙ ap (λ b. if b then 16 else 1) half in
    omega (arith, c.requires.place)

pub returns-then-keeps_half : goal.returns-then-keeps_half
returns-then-keeps_half c =
    let half = sym c.keeps_half.ensures ∙ c.if-keeps_half.true in
    let long : length (col_clauses c.args.kind c.args.source c.args.outcome c.args.label) ≡ 16 =
    length-cols c.args.kind c.args.source c.args.outcome c.args.label ∙ ap (λ b. if b then 16 else 1) half in
    let from = c.negative.ensures ∙ ap minus c.col_var.ensures in
    let to = c.positive.ensures ∙ ap plus (c.col_var-then-keeps_half.ensures ∙ ap (col_var c.args.label) c.col_of-to.ensures.col) in
    at_lits (col_clauses c.args.kind c.args.source c.args.outcome c.args.label) c.args.place _ (Two _ _)
    (cols-at_half c.args.kind c.args.source c.args.outcome c.args.label c.args.place half (omega (arith, c.requires.place)))
    (λ k. from k ∷ to k ∷ []) tt
