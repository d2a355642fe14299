-- How many clauses there are, and the clause of a place.
use Rattle.std.proofs.Common.{◌≡◌, ℕ, ℤ, zero, suc, ◌+◌, ◌-◌, ◌*◌, ◌<◌, ◌≤◌, List, [], ◌∷◌, ◌++◌, length, Some, refl, sym, ap, ◌∙◌, arith}
use Rattle.std.specs.Prelude.{slice_get}
use Rattle.std.proofs.lemmas.List.{length-append}
use Rattle.placement_clauses.specs.Upto.{upto}
use Rattle.placement_clauses.specs.Number.{plus, minus, row_var, col_var, differ_var, pairs_below}
use Rattle.placement_clauses.specs.Clauses.{cell_clauses, apart_clauses, cell_class, apart_class, apart_from_earlier}
use Rattle.placement_clauses.specs.Shape.{one, any_of, not_with_later, no_two, apart_unless}
use Rattle.placement_clauses.proofs.UptoLemmas.{upto-none, upto-suc, upto-more, length-upto, length-singles, slice_get-singles, slice_get-upto, slice_get-append_left, slice_get-append_right, length-triangle, pairs-more}

-- one block more
pub length-more : {A : Type 0} (n : ℕ) (f : ℕ → List A) → length (upto (n + 1) f) ≡ length (upto n f) + length (f n)
length-more n f = ap length (upto-more n f) ∙ length-append (upto n f) (f n)

-- the pairs of one variable with the later ones
pub length-later : (n v r : ℕ) → length (not_with_later n v r) ≡ n - (r + 1)
length-later n v r = length-singles (n - (r + 1)) (λ k. minus (v + r) ∷ minus (v + (r + 1 + k)) ∷ [])

-- the pairs so far and those to come are all pairs
length-no_two_front : (n v r : ℕ) → r ≤ n → length (upto r (not_with_later n v)) + pairs_below (n - r) ≡ pairs_below n
length-no_two_front n v zero le = let e : n - 0 ≡ n = omega arith in
    ap (λ l. length l + pairs_below (n - 0)) (upto-none (not_with_later n v)) ∙ plain e
  where
    plain : n - 0 ≡ n → 0 + pairs_below (n - 0) ≡ pairs_below n
    plain e = let z : 0 + pairs_below (n - 0) ≡ pairs_below (n - 0) = omega arith in z ∙ ap pairs_below e
length-no_two_front n v (suc r) le =
    let before : length (upto r (not_with_later n v)) + pairs_below (n - r) ≡ pairs_below n = length-no_two_front n v r (omega arith) in
    let whole : length (upto (suc r) (not_with_later n v)) ≡ length (upto r (not_with_later n v)) + length (not_with_later n v r) =
    ap length (upto-suc r (not_with_later n v)) ∙ length-append (upto r (not_with_later n v)) (not_with_later n v r) in
    let block : length (not_with_later n v r) ≡ n - (r + 1) = length-later n v r in
    let at : n - r ≡ suc (n - suc r) = omega arith in
    let step : pairs_below (n - r) ≡ pairs_below (n - suc r) + (n - suc r) = ap pairs_below at ∙ pairs-more (n - suc r) in
    sums _ _ _ _ _ _ (n - suc r) before whole block (omega arith) step
  where
    sums : (l l1 b p p1 q m : ℕ) → l + p ≡ q → l1 ≡ l + b → b ≡ n - (r + 1) → n - (r + 1) ≡ m → p ≡ p1 + m → l1 + p1 ≡ q
    sums l l1 b p p1 q m before whole block left step = omega arith

-- a clause for each pair
pub length-no_two : (n v : ℕ) → length (no_two n v) ≡ pairs_below n
length-no_two n v =
    let e : n - n ≡ 0 = omega arith in
    let z : pairs_below (n - n) ≡ 0 = ap pairs_below e in
    let h : length (no_two n v) + pairs_below (n - n) ≡ pairs_below n = length-no_two_front n v n (omega arith) in
    plain _ _ _ h z
  where
    plain : (l p q : ℕ) → l + p ≡ q → p ≡ 0 → l ≡ q
    plain l p q h z = omega arith

-- the clause of a place
pub no_two-at : (n v r j place : ℕ) → length (upto r (not_with_later n v)) + j ≡ place → r < n → j < n - (r + 1)
    → slice_get (no_two n v) place ≡ Some (minus (v + r) ∷ minus (v + (r + 1 + j)) ∷ [])
no_two-at n v r j place e r_in j_in =
    let len : length (not_with_later n v r) ≡ n - (r + 1) = length-later n v r in
    ap (slice_get (no_two n v)) (sym e) ∙ slice_get-upto n (not_with_later n v) r j r_in (omega arith)
    ∙ slice_get-singles (n - (r + 1)) (λ k. minus (v + r) ∷ minus (v + (r + 1 + k)) ∷ []) j j_in

-- a clause for each variable of a run
pub length-apart_unless : (z : ℤ) (n v w : ℕ) → length (apart_unless z n v w) ≡ n
length-apart_unless z n v w = length-singles n (λ k. z ∷ minus (v + k) ∷ minus (w + k) ∷ [])

-- a cell has 618 clauses
pub length-cell : (i : ℕ) → length (cell_clauses i) ≡ 618
unfolding cell_clauses
length-cell i =
    let rows : List (List ℤ) = one (any_of 32 (row_var i 0)) in
    let cols : List (List ℤ) = one (any_of 16 (col_var i 0)) in
    let front : List (List ℤ) = rows ++ cols ++ no_two 32 (row_var i 0) in
    let p : length (no_two 32 (row_var i 0)) ≡ 496 = length-no_two 32 (row_var i 0) in
    let q : length (no_two 16 (col_var i 0)) ≡ 120 = length-no_two 16 (col_var i 0) in
    let f : length front ≡ 2 + length (no_two 32 (row_var i 0)) = length-append (rows ++ cols) (no_two 32 (row_var i 0)) in
    let w : length (front ++ no_two 16 (col_var i 0)) ≡ length front + length (no_two 16 (col_var i 0)) =
    length-append front (no_two 16 (col_var i 0)) in
    w ∙ total _ _ _ f p q
  where
    total : (f p q : ℕ) → f ≡ 2 + p → p ≡ 496 → q ≡ 120 → f + q ≡ 618
    total f p q a b c = omega arith

-- the first says that some row is true
pub cell-at_rows : (i : ℕ) → slice_get (cell_clauses i) 0 ≡ Some (any_of 32 (row_var i 0))
unfolding cell_clauses
cell-at_rows i = refl

-- the second says that some column is true
pub cell-at_cols : (i : ℕ) → slice_get (cell_clauses i) 1 ≡ Some (any_of 16 (col_var i 0))
unfolding cell_clauses
cell-at_cols i = refl

-- then come the pairs of rows
pub cell-at_row_pair : (i k place : ℕ) → 2 + k ≡ place → k < 496
    → slice_get (cell_clauses i) place ≡ slice_get (no_two 32 (row_var i 0)) k
unfolding cell_clauses
cell-at_row_pair i k place e lt =
    let rows : List (List ℤ) = one (any_of 32 (row_var i 0)) in
    let cols : List (List ℤ) = one (any_of 16 (col_var i 0)) in
    let pairs : List (List ℤ) = no_two 32 (row_var i 0) in
    let p : length pairs ≡ 496 = length-no_two 32 (row_var i 0) in
    let f : length (rows ++ cols ++ pairs) ≡ 2 + length pairs = length-append (rows ++ cols) pairs in
    ap (slice_get (rows ++ cols ++ pairs ++ no_two 16 (col_var i 0))) (sym e)
    ∙ slice_get-append_left (rows ++ cols ++ pairs) (no_two 16 (col_var i 0)) (2 + k) (omega arith)
    ∙ slice_get-append_right (rows ++ cols) pairs k

-- then come the pairs of columns
pub cell-at_col_pair : (i k place : ℕ) → 498 + k ≡ place → slice_get (cell_clauses i) place ≡ slice_get (no_two 16 (col_var i 0)) k
unfolding cell_clauses
cell-at_col_pair i k place e =
    let rows : List (List ℤ) = one (any_of 32 (row_var i 0)) in
    let cols : List (List ℤ) = one (any_of 16 (col_var i 0)) in
    let pairs : List (List ℤ) = no_two 32 (row_var i 0) in
    let p : length pairs ≡ 496 = length-no_two 32 (row_var i 0) in
    let f : length (rows ++ cols ++ pairs) ≡ 2 + length pairs = length-append (rows ++ cols) pairs in
    let g : place ≡ length (rows ++ cols ++ pairs) + k = omega arith in
    ap (slice_get (rows ++ cols ++ pairs ++ no_two 16 (col_var i 0))) g
    ∙ slice_get-append_right (rows ++ cols ++ pairs) (no_two 16 (col_var i 0)) k

-- two labels have 48 clauses
pub length-apart : (n j i : ℕ) → length (apart_clauses n j i) ≡ 48
unfolding apart_clauses
length-apart n j i =
    let d = differ_var n i j in
    let rows : List (List ℤ) = apart_unless (minus d) 32 (row_var i 0) (row_var j 0) in
    let cols : List (List ℤ) = apart_unless (plus d) 16 (col_var i 0) (col_var j 0) in
    let p : length rows ≡ 32 = length-apart_unless (minus d) 32 (row_var i 0) (row_var j 0) in
    let q : length cols ≡ 16 = length-apart_unless (plus d) 16 (col_var i 0) (col_var j 0) in
    length-append rows cols ∙ total _ _ p q
  where
    total : (p q : ℕ) → p ≡ 32 → q ≡ 16 → p + q ≡ 48
    total p q a b = omega arith

-- the first 32 are those of the rows
pub apart-at_row : (n j i k : ℕ) → k < 32
    → slice_get (apart_clauses n j i) k ≡ Some (minus (differ_var n i j) ∷ minus (row_var i 0 + k) ∷ minus (row_var j 0 + k) ∷ [])
unfolding apart_clauses
apart-at_row n j i k lt =
    let d = differ_var n i j in
    let rows : List (List ℤ) = apart_unless (minus d) 32 (row_var i 0) (row_var j 0) in
    let cols : List (List ℤ) = apart_unless (plus d) 16 (col_var i 0) (col_var j 0) in
    let p : length rows ≡ 32 = length-apart_unless (minus d) 32 (row_var i 0) (row_var j 0) in
    slice_get-append_left rows cols k (omega arith)
    ∙ slice_get-singles 32 (λ k. minus d ∷ minus (row_var i 0 + k) ∷ minus (row_var j 0 + k) ∷ []) k lt

-- the last 16 are those of the columns
pub apart-at_col : (n j i k place : ℕ) → k < 16 → 32 + k ≡ place
    → slice_get (apart_clauses n j i) place ≡ Some (plus (differ_var n i j) ∷ minus (col_var i 0 + k) ∷ minus (col_var j 0 + k) ∷ [])
unfolding apart_clauses
apart-at_col n j i k place lt e =
    let d = differ_var n i j in
    let rows : List (List ℤ) = apart_unless (minus d) 32 (row_var i 0) (row_var j 0) in
    let cols : List (List ℤ) = apart_unless (plus d) 16 (col_var i 0) (col_var j 0) in
    let p : length rows ≡ 32 = length-apart_unless (minus d) 32 (row_var i 0) (row_var j 0) in
    let g : place ≡ length rows + k = omega arith in
    ap (slice_get (rows ++ cols)) g ∙ slice_get-append_right rows cols k
    ∙ slice_get-singles 16 (λ k. plus d ∷ minus (col_var i 0 + k) ∷ minus (col_var j 0 + k) ∷ []) k lt

-- 618 clauses for each label
pub length-cell_class : (n : ℕ) → length (cell_class n) ≡ n * 618
length-cell_class n = length-upto 618 n cell_clauses (λ i lt. length-cell i)

-- 48 clauses for each earlier label
pub length-earlier : (n j : ℕ) → length (apart_from_earlier n j) ≡ j * 48
length-earlier n j = length-upto 48 j (apart_clauses n j) (λ i lt. length-apart n j i)

-- 48 clauses for each pair of labels
pub length-apart_class : (n : ℕ) → length (apart_class n) ≡ pairs_below n * 48
length-apart_class n = length-triangle 48 n (λ i j. apart_clauses n j i) (λ i j lt below. length-apart n j i)
