-- The literals of a clause that is given by its shape (this project's own choice).
use Rattle.std.specs.Prelude.{ℕ, ◌≡◌, ◌+◌, ◌<◌, ◌≤◌, ◌^◌, ℤ, List, [], ◌∷◌, Some, slice_get}
use Rattle.placement_clauses.specs.Upto.{upto}
use Rattle.placement_clauses.specs.Number.{minus, row_var}
use Rattle.placement_clauses.specs.Shape.{any_of}
use Rattle.placement_clauses.specs.Clauses.{reach_lit}
use Rattle.clause_encode.specs.declared.clause_shape.ClauseShape.{ClauseShape}
use Rattle.clause_encode.specs.declared.clause_shape.ClauseShape.TheVariants.{One, Two, Three, AnyOf, Reach}

-- the literals
abbrev pub lits_of : ClauseShape → List ℤ
lits_of (One a) = a ∷ []
lits_of (Two a b) = a ∷ b ∷ []
lits_of (Three a b c) = a ∷ b ∷ c ∷ []
lits_of (AnyOf count first) = any_of count first
lits_of (Reach kind source target row) = minus (row_var source row) ∷ upto 32 (reach_lit kind target row)

-- the run has numbers of variables; the labels and the row are among those that there can be
abbrev pub IsShape : ClauseShape → Type 0
IsShape (One a) = Unit {0}
IsShape (Two a b) = Unit {0}
IsShape (Three a b c) = Unit {0}
IsShape (AnyOf count first) = (0 < first) × (first + count ≤ 2 ^ 31)
IsShape (Reach kind source target row) = (source < 512) × (target < 512) × (row < 32)

-- the clause at a place of a list has this shape
pub record IsAt (clauses : List (List ℤ)) (place : ℕ) (shape : ClauseShape) : Type 0 where
  pub there : slice_get clauses place ≡ Some (lits_of shape)
  pub fits : IsShape shape
