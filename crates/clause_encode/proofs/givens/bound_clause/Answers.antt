use Rattle.std.proofs.Common.{◌∙◌, [], ◌∷◌, ap}
use Rattle.placement_clauses.specs.Number.{minus}
use Rattle.placement_clauses.specs.Clauses.{bound_clauses}
use Rattle.placement_clauses.proofs.NumberedLemmas.{bound-at}
use Rattle.clause_encode.specs.declared.clause_shape.ClauseShape.TheVariants.{One}
use Rattle.clause_encode.proofs.PlaceLemmas.{at_lits}
use Rattle.clause_encode.proofs.givens.bound_clause.Goals as goal

pub returns : goal.returns
returns c =
    let lit = c.negative.ensures ∙ ap minus c.row_var.ensures in
    at_lits (bound_clauses c.args.rows c.args.label) c.args.place _ (One _)
    (bound-at c.args.rows c.args.label c.args.place c.requires.place) (λ k. lit k ∷ []) tt
