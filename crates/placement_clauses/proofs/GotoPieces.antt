-- The pieces of the clauses of `goto`, and where each begins.
use Rattle.std.proofs.Common.{◌≡◌, ℕ, ℤ, ◌+◌, List, [], ◌∷◌, ◌++◌, length, arith}
use Rattle.std.proofs.lemmas.List.{length-append}
use Rattle.placement_clauses.specs.Number.{plus, minus, row_var, col_var, way_var}
use Rattle.placement_clauses.specs.Shape.{one, same_where}
use Rattle.placement_clauses.proofs.UptoLemmas.{length-singles}

-- one of the three ways
abbrev pub goto_some : ℕ → ℕ → List (List ℤ)
goto_some n s = one (plus (way_var n s 0) ∷ plus (way_var n s 1) ∷ plus (way_var n s 2) ∷ [])

-- the first way keeps the column
abbrev pub goto_cols : ℕ → ℕ → ℕ → List (List ℤ)
goto_cols n s m = same_where (way_var n s 0) 16 (col_var s 0) (col_var m 0)

-- the second leads to row 0
abbrev pub goto_zero : ℕ → ℕ → ℕ → List (List ℤ)
goto_zero n s m = one (minus (way_var n s 1) ∷ plus (row_var m 0) ∷ [])

-- and not to column 15
abbrev pub goto_low : ℕ → ℕ → ℕ → List (List ℤ)
goto_low n s m = one (minus (way_var n s 1) ∷ minus (col_var m 15) ∷ [])

-- the third keeps the row
abbrev pub goto_rows : ℕ → ℕ → ℕ → List (List ℤ)
goto_rows n s m = same_where (way_var n s 2) 32 (row_var s 0) (row_var m 0)

-- the pieces before the third, the fourth and the fifth
abbrev pub before_zero : ℕ → ℕ → ℕ → List (List ℤ)
before_zero n s m = goto_some n s ++ goto_cols n s m

abbrev pub before_low : ℕ → ℕ → ℕ → List (List ℤ)
before_low n s m = before_zero n s m ++ goto_zero n s m

abbrev pub before_rows : ℕ → ℕ → ℕ → List (List ℤ)
before_rows n s m = before_low n s m ++ goto_low n s m

-- how many clauses these are
pub record GotoFronts (n s m : ℕ) : Type 0 where
  pub zero_at : length (before_zero n s m) ≡ 17
  pub low_at : length (before_low n s m) ≡ 18
  pub rows_at : length (before_rows n s m) ≡ 19

pub goto_fronts : (n s m : ℕ) → GotoFronts n s m
goto_fronts n s m =
    let c : length (goto_cols n s m) ≡ 16 =
    length-singles 16 (λ k. minus (way_var n s 0) ∷ minus (col_var s 0 + k) ∷ plus (col_var m 0 + k) ∷ []) in
    let l2 : length (before_zero n s m) ≡ 1 + length (goto_cols n s m) = length-append (goto_some n s) (goto_cols n s m) in
    let l3 : length (before_low n s m) ≡ length (before_zero n s m) + 1 = length-append (before_zero n s m) (goto_zero n s m) in
    let l4 : length (before_rows n s m) ≡ length (before_low n s m) + 1 = length-append (before_low n s m) (goto_low n s m) in
    let f = fronts _ _ _ _ c l2 l3 l4 in
    record { zero_at = f.0; low_at = f.1; rows_at = f.2 }
  where
    fronts : (cols l2 l3 l4 : ℕ) → cols ≡ 16 → l2 ≡ 1 + cols → l3 ≡ l2 + 1 → l4 ≡ l3 + 1 → (l2 ≡ 17) × (l3 ≡ 18) × (l4 ≡ 19)
    fronts cols l2 l3 l4 c e f g = (omega arith, omega arith, omega arith)
