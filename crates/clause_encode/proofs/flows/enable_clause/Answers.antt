use Rattle.std.proofs.Common.{◌≡◌, ◌+◌, ◌-◌, ◌∙◌, [], ◌∷◌, ap, refl, arith, length}
use Rattle.mcu_jumps.specs.declared.kinds.Kind.TheVariants as kind
use Rattle.placement_clauses.specs.Number.{plus, minus, col_var}
use Rattle.placement_clauses.specs.Shape.{same}
use Rattle.placement_clauses.specs.Clauses.{reach_clauses}
use Rattle.placement_clauses.proofs.CountLemmas.{length-same}
use Rattle.placement_clauses.proofs.NumberedLemmas.{same-at, reach-at}
use Rattle.clause_encode.specs.declared.clause_shape.ClauseShape.TheVariants.{Two, Reach}
use Rattle.clause_encode.proofs.PlaceLemmas.{at_lits, at_front, at_back}
use Rattle.clause_encode.proofs.flows.enable_clause.Goals as goal

pub returns-then-place-lt16 : goal.returns-then-place-lt16
returns-then-place-lt16 c =
    let cols = same 16 (col_var c.args.source 0) (col_var c.args.target 0) in
    let long : length cols ≡ 16 = length-same 16 (col_var c.args.source 0) (col_var c.args.target 0) in
    let from = c.negative.ensures ∙ ap (λ v. minus (v + c.args.place)) c.col_var.ensures in
    let to = c.positive.ensures ∙ ap (λ v. plus (v + c.args.place)) c.col_var-then-place-lt16.ensures in
    at_front cols (reach_clauses kind.Enable c.args.source c.args.target) c.args.place _ (omega arith)
    (at_lits cols c.args.place _ (Two _ _) (same-at 16 (col_var c.args.source 0) (col_var c.args.target 0) c.args.place (omega arith))
    (λ k. from k ∷ to k ∷ []) tt)

pub returns-else-place-lt16 : goal.returns-else-place-lt16
returns-else-place-lt16 c =
    let cols = same 16 (col_var c.args.source 0) (col_var c.args.target 0) in
    let rows = reach_clauses kind.Enable c.args.source c.args.target in
    let long : length cols ≡ 16 = length-same 16 (col_var c.args.source 0) (col_var c.args.target 0) in
    at_back cols rows c.args.place (c.args.place - 16) _ (omega arith)
    (at_lits rows (c.args.place - 16) _ (Reach kind.Enable c.args.source c.args.target (c.args.place - 16))
    (reach-at kind.Enable c.args.source c.args.target (c.args.place - 16) (omega arith)) refl (omega arith, omega arith, omega arith))
