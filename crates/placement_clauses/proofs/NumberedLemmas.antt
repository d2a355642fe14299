-- The clause at a place.
use Rattle.std.proofs.Common.{◌≡◌, ◌≢◌, ℕ, ◌+◌, ◌-◌, ◌*◌, ◌<◌, ◌≤◌, true, [], ◌∷◌, ◌++◌, length, Some, refl, ap, ◌∙◌, arith}
use Rattle.std.specs.Prelude.{slice_get, if◌then◌else◌}
use Rattle.std.proofs.lemmas.Bool.{ne_eqb}
use Rattle.mcu_jumps.specs.declared.kinds.Kind.{Kind}
use Rattle.placement_clauses.specs.Upto.{upto}
use Rattle.placement_clauses.specs.Number.{plus, minus, row_var, col_var, way_var}
use Rattle.placement_clauses.specs.Shape.{one, same, same_where}
use Rattle.placement_clauses.specs.Reaching.{col_of, keeps_half}
use Rattle.placement_clauses.specs.Clauses.{bound_clauses, goto_clauses, reach_lit, reach_clauses, col_clause, col_clauses, outcome_clauses, trap_of, trap_pair}
use Rattle.placement_clauses.proofs.UptoLemmas.{slice_get-singles, slice_get-append_left, slice_get-append_right}
use Rattle.placement_clauses.proofs.GotoPieces.{goto_some, goto_cols, goto_zero, goto_low, goto_rows, before_zero, before_low, before_rows, goto_fronts}
use Rattle.placement_clauses.proofs.CountLemmas.{length-before_gap, length-with_gap, trap_of-other, trap_of-same}

-- the clause of the k-th variable of a run
pub same-at : (n v w k : ℕ) → k < n → slice_get (same n v w) k ≡ Some (minus (v + k) ∷ plus (w + k) ∷ [])
same-at n v w k lt = slice_get-singles n (λ k. minus (v + k) ∷ plus (w + k) ∷ []) k lt

-- the same with a condition
same_where-at : (g n v w k : ℕ) → k < n → slice_get (same_where g n v w) k ≡ Some (minus g ∷ minus (v + k) ∷ plus (w + k) ∷ [])
same_where-at g n v w k lt = slice_get-singles n (λ k. minus g ∷ minus (v + k) ∷ plus (w + k) ∷ []) k lt

-- the clause of the k-th row from the bound on
pub bound-at : (rows i k : ℕ) → k < 32 - rows → slice_get (bound_clauses rows i) k ≡ Some (minus (row_var i (rows + k)) ∷ [])
bound-at rows i k lt = slice_get-singles (32 - rows) (λ k. minus (row_var i (rows + k)) ∷ []) k lt

-- the clause of row r
pub reach-at : (k : Kind) (s x r : ℕ) → r < 32
    → slice_get (reach_clauses k s x) r ≡ Some (minus (row_var s r) ∷ upto 32 (reach_lit k x r))
reach-at k s x r lt = slice_get-singles 32 (λ r. minus (row_var s r) ∷ upto 32 (reach_lit k x r)) r lt

-- from each column, the column of an outcome
pub cols-at_half : (k : Kind) (s o y c : ℕ) → keeps_half k ≡ true → c < 16
    → slice_get (col_clauses k s o y) c ≡ Some (minus (col_var s c) ∷ plus (col_var y (col_of k o c)) ∷ [])
cols-at_half k s o y c half lt =
    ap (λ b. slice_get (if b then upto 16 (col_clause k s o y) else one (plus (col_var y (col_of k o 0)) ∷ [])) c) half
    ∙ slice_get-singles 16 (λ c. minus (col_var s c) ∷ plus (col_var y (col_of k o c)) ∷ []) c lt

-- the clauses of a later outcome's label
pub outcome-other : (k : Kind) (s e x o y : ℕ) → o ≢ e
    → outcome_clauses k s e x o y ≡ same 32 (row_var x 0) (row_var y 0) ++ col_clauses k s o y
outcome-other k s e x o y ne = ap (λ b. (if b then [] else same 32 (row_var x 0) (row_var y 0)) ++ col_clauses k s o y) (ne_eqb o e ne)

-- the pieces of `goto`, of 1, 16, 1, 1 and 32 clauses
pub goto-at_col : (n s m k : ℕ) → k < 16
    → slice_get (goto_clauses n s m) (1 + k) ≡ Some (minus (way_var n s 0) ∷ minus (col_var s 0 + k) ∷ plus (col_var m 0 + k) ∷ [])
goto-at_col n s m k lt =
    let f = goto_fronts n s m in
    slice_get-append_left (before_rows n s m) (goto_rows n s m) (1 + k) (omega (arith, f.rows_at, lt))
    ∙ slice_get-append_left (before_low n s m) (goto_low n s m) (1 + k) (omega (arith, f.low_at, lt))
    ∙ slice_get-append_left (before_zero n s m) (goto_zero n s m) (1 + k) (omega (arith, f.zero_at, lt))
    ∙ slice_get-append_right (goto_some n s) (goto_cols n s m) k ∙ same_where-at (way_var n s 0) 16 (col_var s 0) (col_var m 0) k lt

-- after the columns, row 0
pub goto-at_zero : (n s m : ℕ) → slice_get (goto_clauses n s m) 17 ≡ Some (minus (way_var n s 1) ∷ plus (row_var m 0) ∷ [])
goto-at_zero n s m =
    let f = goto_fronts n s m in
    let at : 17 ≡ length (before_zero n s m) + 0 = omega (arith, f.zero_at) in
    slice_get-append_left (before_rows n s m) (goto_rows n s m) 17 (omega (arith, f.rows_at))
    ∙ slice_get-append_left (before_low n s m) (goto_low n s m) 17 (omega (arith, f.low_at))
    ∙ ap (slice_get (before_low n s m)) at ∙ slice_get-append_right (before_zero n s m) (goto_zero n s m) 0

-- then the column below 15
pub goto-at_low : (n s m : ℕ) → slice_get (goto_clauses n s m) 18 ≡ Some (minus (way_var n s 1) ∷ minus (col_var m 15) ∷ [])
goto-at_low n s m =
    let f = goto_fronts n s m in
    let at : 18 ≡ length (before_low n s m) + 0 = omega (arith, f.low_at) in
    slice_get-append_left (before_rows n s m) (goto_rows n s m) 18 (omega (arith, f.rows_at))
    ∙ ap (slice_get (before_rows n s m)) at ∙ slice_get-append_right (before_low n s m) (goto_low n s m) 0

-- then the rows
pub goto-at_row : (n s m k : ℕ) → k < 32
    → slice_get (goto_clauses n s m) (19 + k) ≡ Some (minus (way_var n s 2) ∷ minus (row_var s 0 + k) ∷ plus (row_var m 0 + k) ∷ [])
goto-at_row n s m k lt =
    let at : 19 + k ≡ length (before_rows n s m) + k = omega (arith, (goto_fronts n s m).rows_at) in
    ap (slice_get (goto_clauses n s m)) at ∙ slice_get-append_right (before_rows n s m) (goto_rows n s m) k
    ∙ same_where-at (way_var n s 2) 32 (row_var s 0) (row_var m 0) k lt

-- the clauses before a label, where one label before it has none
pub length-before_label : (n : ℕ) (k : Kind) (x e o w z : ℕ) → ((z : ℕ) → length (trap_pair n k x e o z) ≡ w) → z ≤ x
    → length (upto z (trap_of n k x e o)) ≡ z * w
length-before_label n k x e o w z each le =
    length-before_gap w x z (trap_of n k x e o) (λ z ne. ap length (trap_of-other n k x e o z ne) ∙ each z) le

-- the clauses before a label after the one that has none
pub length-after_label : (n : ℕ) (k : Kind) (x e o w j : ℕ) → ((z : ℕ) → length (trap_pair n k x e o z) ≡ w) → x ≤ j
    → length (upto (j + 1) (trap_of n k x e o)) ≡ j * w
length-after_label n k x e o w j each le =
    less (length-with_gap w x (j + 1) (trap_of n k x e o) (λ z ne. ap length (trap_of-other n k x e o z ne) ∙ each z)
    (trap_of-same n k x e o x refl) (omega arith))
  where
    less : length (upto (j + 1) (trap_of n k x e o)) + w ≡ (j + 1) * w → length (upto (j + 1) (trap_of n k x e o)) ≡ j * w
    less h = omega (arith, h)
