-- Each clause of the first four classes holds no literal twice, and only variables that there are.
use Rattle.std.proofs.Common.{◌≡◌, ◌≢◌, ℕ, ℤ, zero, suc, ◌+◌, ◌-◌, ◌*◌, ◌<◌, ◌≤◌, Bool, true, false, List, [], ◌∷◌, ◌++◌, length, Option, Some, None, refl, arith}
use Rattle.std.specs.Prelude.{slice_get, if◌then◌else◌, ◌==◌}
use Rattle.std.specs.List.{All}
use Rattle.std.proofs.lemmas.List.Elements.{All-nil}
use Rattle.mcu_jumps.specs.Landing.{outcomes_of}
use Rattle.mcu_jumps.specs.declared.kinds.Kind.{Kind}
use Rattle.mcu_jumps.specs.declared.kinds.Kind.TheVariants as kind
use Rattle.clause_base.specs.Lit.{var_of}
use Rattle.clause_base.specs.Clauses.{IsClause}
use Rattle.placement_clauses.specs.Upto.{upto, each_of}
use Rattle.placement_clauses.specs.Number.{plus, minus, row_var, col_var, differ_var, way_var}
use Rattle.placement_clauses.specs.Shape.{one, any_of, no_two, same, same_where, apart_unless}
use Rattle.placement_clauses.specs.Reaching.{col_of, keeps_half}
use Rattle.placement_clauses.specs.Clauses.{cell_clauses, apart_clauses, at_clauses, not_in_row, bound_clauses, goto_clauses, reach_clause, reach_clauses, col_clause, col_clauses, outcome_clauses, target_clauses, test_clauses}
use Rattle.clause_encode.proofs.ClauseLemmas.{any_of-valid}
use Rattle.clause_encode.proofs.ReachLemmas.{reach-valid}
use Rattle.clause_encode.proofs.ValidLemmas.{in_plus, in_minus, minus_plus, minus_apart, valid_one, valid_two, valid_three, are_one, are_both, are_upto, are_at_place, are_no_two, are_same, are_same_where, are_apart_unless}

-- the cell of a label
pub cells_valid : (vars i : ℕ) → 48 * i + 48 ≤ vars → All (IsClause vars) (cell_clauses i)
unfolding cell_clauses
cells_valid vars i room =
    let rows : List (List ℤ) = one (any_of 32 (row_var i 0)) in
    let cols : List (List ℤ) = one (any_of 16 (col_var i 0)) in
    let rows_in = are_one vars (any_of 32 (row_var i 0)) (any_of-valid vars 32 (row_var i 0) (omega arith) (omega arith)) in
    let cols_in = are_one vars (any_of 16 (col_var i 0)) (any_of-valid vars 16 (col_var i 0) (omega arith) (omega arith)) in
    are_both vars (rows ++ cols ++ no_two 32 (row_var i 0)) (no_two 16 (col_var i 0))
    (are_both vars (rows ++ cols) (no_two 32 (row_var i 0)) (are_both vars rows cols rows_in cols_in)
    (are_no_two vars 32 (row_var i 0) (omega arith) (omega arith)))
    (are_no_two vars 16 (col_var i 0) (omega arith) (omega arith))

-- two labels
pub apart_valid : (vars n j i : ℕ) → i < j → 48 * j + 48 ≤ 48 * n → differ_var n i j ≤ vars → All (IsClause vars) (apart_clauses n j i)
unfolding apart_clauses
apart_valid vars n j i ordered room d_in =
    let d = differ_var n i j in
    let not_d = in_minus vars d (omega arith) d_in in
    let var_is : var_of (minus d) ≡ d = var_minus d in
    are_both vars (apart_unless (minus d) 32 (row_var i 0) (row_var j 0)) (apart_unless (plus d) 16 (col_var i 0) (col_var j 0))
    (are_apart_unless vars 32 (row_var i 0) (row_var j 0) (minus d) not_d (omega arith) (omega arith) (omega arith))
    (are_apart_unless vars 16 (col_var i 0) (col_var j 0) (plus d) (in_plus vars d (omega arith) d_in) (omega arith) (omega arith)
    (omega arith))
  where
    var_minus : (v : ℕ) → var_of (minus v) ≡ v
    var_minus zero = refl
    var_minus (suc v) = refl

-- a row and a column of a label
pub at_valid : (vars i r c : ℕ) → 48 * i + 48 ≤ vars → r < 32 → c < 16 → All (IsClause vars) (at_clauses i r c)
at_valid vars i r c room r_in c_in =
    are_both vars (one (plus (row_var i r) ∷ [])) (one (plus (col_var i c) ∷ []))
    (are_one vars (plus (row_var i r) ∷ [])
    (valid_one vars (plus (row_var i r)) (in_plus vars (row_var i r) (omega arith) (omega arith))))
    (are_one vars (plus (col_var i c) ∷ [])
    (valid_one vars (plus (col_var i c)) (in_plus vars (col_var i c) (omega arith) (omega arith))))

-- the row bound of a label
pub bound_valid : (vars rows i : ℕ) → 48 * i + 48 ≤ vars → All (IsClause vars) (bound_clauses rows i)
bound_valid vars rows i room = are_upto vars (32 - rows) (λ k. not_in_row i (rows + k)) (λ k k_in.
    are_one vars (minus (row_var i (rows + k)) ∷ [])
    (valid_one vars (minus (row_var i (rows + k))) (in_minus vars (row_var i (rows + k)) (omega arith) (omega arith))))

-- a label in a row that is reached
reach_valid : (vars : ℕ) (k : Kind) (s x : ℕ) → 48 * s + 48 ≤ vars → 48 * x + 48 ≤ vars → All (IsClause vars) (reach_clauses k s x)
reach_valid vars k s x s_room x_room = are_upto vars 32 (reach_clause k s x) (λ r r_in.
    are_one vars _ (reach-valid vars (row_var s r) k x r (omega arith) (omega arith) (omega arith)))

-- `goto`
pub goto_valid : (vars n s m : ℕ) → s < n → m < n → way_var n s 2 ≤ vars → All (IsClause vars) (goto_clauses n s m)
goto_valid vars n s m s_in m_in room =
    let a = way_var n s 0 in
    let b = way_var n s 1 in
    let c = way_var n s 2 in
    let ways : List ℤ = plus a ∷ plus b ∷ plus c ∷ [] in
    let cols = same_where a 16 (col_var s 0) (col_var m 0) in
    let zero_row : List ℤ = minus b ∷ plus (row_var m 0) ∷ [] in
    let low : List ℤ = minus b ∷ minus (col_var m 15) ∷ [] in
    let rows = same_where c 32 (row_var s 0) (row_var m 0) in
    let a_in : a ≤ vars = omega arith in
    let b_in : b ≤ vars = omega arith in
    let m_below : 48 * m + 48 ≤ 48 * n = omega arith in
    let s_below : 48 * s + 48 ≤ 48 * n = omega arith in
    let ways_in : IsClause vars ways =
    valid_three vars (plus a) (plus b) (plus c) (in_plus vars a (omega arith) a_in) (in_plus vars b (omega arith) b_in)
    (in_plus vars c (omega arith) room)
    (plus_other a b (omega arith)) (plus_other a c (omega arith)) (plus_other b c (omega arith)) in
    let zero_in : IsClause vars zero_row =
    valid_two vars (minus b) (plus (row_var m 0)) (in_minus vars b (omega arith) b_in)
    (in_plus vars (row_var m 0) (omega arith) (omega arith)) (minus_plus b (row_var m 0) (omega arith)) in
    let low_in : IsClause vars low =
    valid_two vars (minus b) (minus (col_var m 15)) (in_minus vars b (omega arith) b_in)
    (in_minus vars (col_var m 15) (omega arith) (omega arith)) (minus_apart b (col_var m 15) (λ e. absurd (omega arith))) in
    are_both vars (one ways ++ cols ++ one zero_row ++ one low) rows
    (are_both vars (one ways ++ cols ++ one zero_row) (one low)
    (are_both vars (one ways ++ cols) (one zero_row)
    (are_both vars (one ways) cols (are_one vars ways ways_in)
    (are_same_where vars a 16 (col_var s 0) (col_var m 0) (omega arith) (omega arith) (omega arith) (omega arith) a_in))
    (are_one vars zero_row zero_in))
    (are_one vars low low_in))
    (are_same_where vars c 32 (row_var s 0) (row_var m 0) (omega arith) (omega arith) (omega arith) (omega arith) room)
  where
    plus_other : (v w : ℕ) → v < w → plus v ≢ plus w
    plus_other v w lt e = let same : v ≡ w = cc in omega arith

-- `enable`
pub enable_valid : (vars s m : ℕ) → 48 * s + 48 ≤ vars → 48 * m + 48 ≤ vars
    → All (IsClause vars) (same 16 (col_var s 0) (col_var m 0) ++ reach_clauses kind.Enable s m)
enable_valid vars s m s_room m_room =
    are_both vars (same 16 (col_var s 0) (col_var m 0)) (reach_clauses kind.Enable s m)
    (are_same vars 16 (col_var s 0) (col_var m 0) (omega arith) (omega arith) (omega arith) (omega arith))
    (reach_valid vars kind.Enable s m s_room m_room)

-- an outcome lands in a column of the matrix
pub col_below : (k : Kind) (o c : ℕ) → o < outcomes_of k → c < 16 → col_of k o c < 16
col_below kind.Goto o c o_in c_in = omega arith
col_below kind.Strobe o c o_in c_in = omega arith
col_below kind.Enable o c o_in c_in = omega arith
col_below kind.IfF o c o_in c_in = omega arith
col_below kind.IfC o c o_in c_in = omega arith
col_below kind.IfZ o c o_in c_in = omega arith
col_below kind.OnPr o c o_in c_in = omega arith
col_below kind.OnPx o c o_in c_in = omega arith
col_below kind.OnLeft o c o_in c_in = omega arith
col_below kind.OnRight o c o_in c_in = omega arith

-- a label in the column of an outcome
cols_valid : (vars : ℕ) (k : Kind) (s o y : ℕ) → o < outcomes_of k → 48 * s + 48 ≤ vars → 48 * y + 48 ≤ vars
    → All (IsClause vars) (col_clauses k s o y)
cols_valid vars k s o y o_in s_room y_room = by (keeps_half k)
  where
    by : (b : Bool) → All (IsClause vars) (if b then upto 16 (col_clause k s o y) else one (plus (col_var y (col_of k o 0)) ∷ []))
    by true = are_upto vars 16 (col_clause k s o y) (λ c c_in.
        let to : col_of k o c < 16 = col_below k o c o_in c_in in
        are_one vars (minus (col_var s c) ∷ plus (col_var y (col_of k o c)) ∷ [])
        (valid_two vars (minus (col_var s c)) (plus (col_var y (col_of k o c))) (in_minus vars (col_var s c) (omega arith) (omega arith))
        (in_plus vars (col_var y (col_of k o c)) (omega arith) (omega arith))
        (minus_plus (col_var s c) (col_var y (col_of k o c)) (omega arith))))
    by false =
        let to : col_of k o 0 < 16 = col_below k o 0 o_in (omega arith) in
        are_one vars (plus (col_var y (col_of k o 0)) ∷ [])
        (valid_one vars (plus (col_var y (col_of k o 0))) (in_plus vars (col_var y (col_of k o 0)) (omega arith) (omega arith)))

-- the label of an outcome
outcome_valid : (vars : ℕ) (k : Kind) (s e x o y : ℕ) → o < outcomes_of k → 48 * s + 48 ≤ vars → 48 * x + 48 ≤ vars → 48 * y + 48 ≤ vars
    → All (IsClause vars) (outcome_clauses k s e x o y)
outcome_valid vars k s e x o y o_in s_room x_room y_room = by (o == e)
  where
    by : (b : Bool) → All (IsClause vars) ((if b then [] else same 32 (row_var x 0) (row_var y 0)) ++ col_clauses k s o y)
    by true = cols_valid vars k s o y o_in s_room y_room
    by false = are_both vars (same 32 (row_var x 0) (row_var y 0)) (col_clauses k s o y)
        (are_same vars 32 (row_var x 0) (row_var y 0) (omega arith) (omega arith) (omega arith) (omega arith))
        (cols_valid vars k s o y o_in s_room y_room)

-- a test
pub test_valid : (vars : ℕ) (k : Kind) (s : ℕ) (ts : List (Option ℕ)) (e x : ℕ) → length ts ≡ outcomes_of k → 48 * s + 48 ≤ vars
    → 48 * x + 48 ≤ vars
    → ((o y : ℕ) → slice_get ts o ≡ Some (Some y) → 48 * y + 48 ≤ vars) → All (IsClause vars) (test_clauses k s ts e x)
test_valid vars k s ts e x count s_room x_room rooms =
    are_both vars (reach_clauses k s x) (each_of ts (target_clauses k s e x)) (reach_valid vars k s x s_room x_room)
    (are_upto vars (length ts) _ (λ o o_in. are_at_place vars ts (target_clauses k s e x) o (target o (omega arith))))
  where
    target : (o : ℕ) → o < outcomes_of k → (t : Option ℕ) → slice_get ts o ≡ Some t → All (IsClause vars) (target_clauses k s e x o t)
    target o o_in None at = All-nil (IsClause vars)
    target o o_in (Some y) at = outcome_valid vars k s e x o y o_in s_room x_room (rooms o y at)
