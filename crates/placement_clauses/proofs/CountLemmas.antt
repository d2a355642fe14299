-- How many clauses there are in the later classes.
use Rattle.std.proofs.Common.{◌≡◌, ◌≢◌, ℕ, ℤ, zero, suc, ◌+◌, ◌-◌, ◌*◌, ◌<◌, ◌≤◌, inl, inr, Bool, true, false, List, [], ◌∷◌, ◌++◌, length, Option, Some, None, refl, sym, ap, ◌∙◌, arith}
use Rattle.std.specs.Prelude.{slice_get, if◌then◌else◌}
use Rattle.std.specs.Option.{option_map_or}
use Rattle.std.proofs.lemmas.List.{length-append}
use Rattle.std.proofs.lemmas.Nat.{mul-le}
use Rattle.std.proofs.lemmas.Bool.{cases_order, eq-eqb, ne_eqb}
use Rattle.std.proofs.lemmas.Option.{slice_get-get_or}
use Rattle.mcu_jumps.specs.declared.kinds.Kind.{Kind}
use Rattle.mcu_jumps.specs.declared.kinds.Kind.TheVariants as kind
use Rattle.mcu_jumps.specs.Landing.{outcomes_of}
use Rattle.flow_graph.specs.Graph.{Graph}
use Rattle.placement_clauses.specs.Upto.{upto, at_place, each_of}
use Rattle.placement_clauses.specs.Number.{plus, minus, row_var, col_var, way_var, pair_var, pairs_below}
use Rattle.placement_clauses.specs.Shape.{one, same, same_where}
use Rattle.placement_clauses.specs.Reaching.{col_of, keeps_half}
use Rattle.placement_clauses.specs.Clauses.{at_clauses, bound_clauses, pin_clauses, goto_clauses, reach_lit, reach_clauses, col_clause, col_clauses, outcome_clauses, target_clauses, test_clauses, trap_pair, trap_of, cell_class, apart_class, given_class, flow_class, trap_class, clauses_of}
use Rattle.placement_clauses.proofs.UptoLemmas.{upto-suc, length-upto, length-singles}
use Rattle.placement_clauses.proofs.LengthLemmas.{length-more, length-cell_class, length-apart_class}
use Rattle.placement_clauses.proofs.GotoPieces.{goto_rows, before_rows, goto_fronts}

-- the clauses of one element more
pub length-each_more : {X A : Type 0} (xs : List X) (f : ℕ → X → List A) (i : ℕ) (x : X) (m c : ℕ) → slice_get xs i ≡ Some x
    → length (f i x) ≡ c → length (upto i (at_place xs f)) ≡ m → length (upto (i + 1) (at_place xs f)) ≡ m + c
length-each_more {X} xs f i x m c there block before =
    let here : length (at_place xs f i) ≡ c = ap (λ (o : Option X). length (option_map_or (f i) o [])) there ∙ block in
    length-more i (at_place xs f) ∙ (let sum : length (upto i (at_place xs f)) + length (at_place xs f i) ≡ m + c = omega arith in sum)

-- the first elements, each with equally many clauses
pub length-each_front : {X A : Type 0} (xs : List X) (f : ℕ → X → List A) (m k : ℕ) → ((i : ℕ) (x : X) → length (f i x) ≡ m)
    → k ≤ length xs → length (upto k (at_place xs f)) ≡ k * m
length-each_front {X} xs f m k h le = length-upto m k (at_place xs f) (λ i lt. block i (omega arith) (slice_get xs i) refl)
  where
    block : (i : ℕ) → i < length xs → (o : Option X) → slice_get xs i ≡ o → length (option_map_or (f i) o []) ≡ m
    block i lt (Some x) at = h i x
    block i lt None at = by xs i lt at
      where
        by : (ys : List X) (k : ℕ) → k < length ys → slice_get ys k ≡ None → 0 ≡ m
        by [] k within none = absurd (omega arith)
        by (y ∷ ys) k within none = let some = slice_get-get_or (y ∷ ys) k y within in cc

-- elements with equally many clauses
pub length-each : {X A : Type 0} (xs : List X) (f : ℕ → X → List A) (m : ℕ) → ((i : ℕ) (x : X) → length (f i x) ≡ m)
    → length (each_of xs f) ≡ length xs * m
length-each xs f m h = length-each_front xs f m (length xs) h (omega arith)

-- the run of n variables gives n clauses
pub length-same : (n v w : ℕ) → length (same n v w) ≡ n
length-same n v w = length-singles n (λ k. minus (v + k) ∷ plus (w + k) ∷ [])

-- the same with a condition
pub length-same_where : (g n v w : ℕ) → length (same_where g n v w) ≡ n
length-same_where g n v w = length-singles n (λ k. minus g ∷ minus (v + k) ∷ plus (w + k) ∷ [])

-- a clause for each row from the bound on
pub length-bound : (rows i : ℕ) → length (bound_clauses rows i) ≡ 32 - rows
length-bound rows i = length-singles (32 - rows) (λ k. minus (row_var i (rows + k)) ∷ [])

-- a clause for each row
pub length-reach : (k : Kind) (s x : ℕ) → length (reach_clauses k s x) ≡ 32
length-reach k s x = length-singles 32 (λ r. minus (row_var s r) ∷ upto 32 (reach_lit k x r))

-- `goto` has 51 clauses
pub length-goto : (n s m : ℕ) → length (goto_clauses n s m) ≡ 51
length-goto n s m =
    length-append (before_rows n s m) (goto_rows n s m)
    ∙ total _ _ (goto_fronts n s m).rows_at (length-same_where (way_var n s 2) 32 (row_var s 0) (row_var m 0))
  where
    total : (front rows : ℕ) → front ≡ 19 → rows ≡ 32 → front + rows ≡ 51
    total front rows a b = omega arith

-- `enable` has 48 clauses
pub length-enable : (s m : ℕ) → length (same 16 (col_var s 0) (col_var m 0) ++ reach_clauses kind.Enable s m) ≡ 48
length-enable s m = length-append (same 16 (col_var s 0) (col_var m 0)) (reach_clauses kind.Enable s m)
    ∙ total _ _ (length-same 16 (col_var s 0) (col_var m 0)) (length-reach kind.Enable s m)
  where
    total : (p q : ℕ) → p ≡ 16 → q ≡ 32 → p + q ≡ 48
    total p q a b = omega arith

-- 16 clauses where the half is kept, and one where the column is fixed
pub length-cols : (k : Kind) (s o y : ℕ) → length (col_clauses k s o y) ≡ (if keeps_half k then 16 else 1)
length-cols k s o y = by (keeps_half k)
  where
    by : (b : Bool) → length
        (if b then upto 16 (col_clause k s o y) else one (plus (col_var y (col_of k o 0)) ∷ [])) ≡ (if b then 16 else 1)
    by true = length-singles 16 (λ c. minus (col_var s c) ∷ plus (col_var y (col_of k o c)) ∷ [])
    by false = refl

-- the label of a later outcome stands in the row of the first too
pub length-outcome_other : (k : Kind) (s e x o y : ℕ) → o ≢ e → length (outcome_clauses k s e x o y) ≡ 32 + length (col_clauses k s o y)
length-outcome_other k s e x o y ne =
    ap (λ b. length ((if b then [] else same 32 (row_var x 0) (row_var y 0)) ++ col_clauses k s o y)) (ne_eqb o e ne)
    ∙ length-append (same 32 (row_var x 0) (row_var y 0)) (col_clauses k s o y)
    ∙ ap (λ m. m + length (col_clauses k s o y)) (length-same 32 (row_var x 0) (row_var y 0))

-- a test has 32 clauses and those of its targets
pub length-test : (k : Kind) (s : ℕ) (ts : List (Option ℕ)) (e x m : ℕ) → length (each_of ts (target_clauses k s e x)) ≡ m
    → length (test_clauses k s ts e x) ≡ 32 + m
length-test k s ts e x m h = length-append (reach_clauses k s x) (each_of ts (target_clauses k s e x)) ∙ (λ i. length-reach k s x i + h i)

-- a clause for each half, or one
pub length-trap_pair : (n : ℕ) (k : Kind) (x e o z : ℕ) → length (trap_pair n k x e o z) ≡ (if keeps_half k then 2 else 1)
length-trap_pair n k x e o z = by (keeps_half k)
  where
    by : (b : Bool) → length
        (if b then one (plus (pair_var n x z) ∷ minus (col_var x (2 + e)) ∷ minus (col_var z (2 + o)) ∷ []) ++ one
        (plus (pair_var n x z) ∷ minus (col_var x (10 + e)) ∷ minus (col_var z (10 + o)) ∷ []) else one
        (plus (pair_var n x z) ∷ minus (col_var z (col_of k o 0)) ∷ [])) ≡ (if b then 2 else 1)
    by true = refl
    by false = refl

-- a label other than the first target has the clauses of a pair, and that target none
pub trap_of-other : (n : ℕ) (k : Kind) (x e o z : ℕ) → z ≢ x → trap_of n k x e o z ≡ trap_pair n k x e o z
trap_of-other n k x e o z ne = ap (λ b. if b then [] else trap_pair n k x e o z) (ne_eqb z x ne)

-- the first target has no clause
pub trap_of-same : (n : ℕ) (k : Kind) (x e o z : ℕ) → z ≡ x → trap_of n k x e o z ≡ []
trap_of-same n k x e o z same = ap (λ b. if b then [] else trap_pair n k x e o z) (eq-eqb z x same)

-- blocks of one length, before one that is empty
pub length-before_gap : {A : Type 0} (w x m : ℕ) (f : ℕ → List A) → ((z : ℕ) → z ≢ x → length (f z) ≡ w) → m ≤ x
    → length (upto m f) ≡ m * w
length-before_gap w x m f other le = length-upto w m f (λ z lt. other z (λ (e : z ≡ x). absurd (omega arith)))

-- blocks of one length, of which one is empty
pub length-with_gap : {A : Type 0} (w x m : ℕ) (f : ℕ → List A) → ((z : ℕ) → z ≢ x → length (f z) ≡ w) → f x ≡ [] → x < m
    → length (upto m f) + w ≡ m * w
length-with_gap w x zero f other gap lt = absurd (omega arith)
length-with_gap w x (suc m) f other gap lt =
    let whole : length (upto (suc m) f) ≡ length (upto m f) + length (f m) = ap length (upto-suc m f) ∙ length-append (upto m f) (f m) in
    elim (cases_order x m) as (λ _. length (upto (suc m) f) + w ≡ suc m * w) [
      | inl same ↦
          let before : length (upto m f) ≡ m * w = length-before_gap w x m f other (omega arith) in
          let last : length (f m) ≡ 0 = ap (λ z. length (f z)) (sym same) ∙ ap length gap in
          omega arith
      | inr (inl below) ↦
          let before : length (upto m f) + w ≡ m * w = length-with_gap w x m f other gap below in
          let last : length (f m) ≡ w = other m (λ (e : m ≡ x). absurd (omega arith)) in
          omega arith
      | inr (inr above) ↦ absurd (omega arith)
    ]

-- a statement has at most 16 outcomes
pub few-outcomes : (k : Kind) → outcomes_of k ≤ 16
few-outcomes kind.Goto = omega arith
few-outcomes kind.Strobe = omega arith
few-outcomes kind.Enable = omega arith
few-outcomes kind.IfF = omega arith
few-outcomes kind.IfC = omega arith
few-outcomes kind.IfZ = omega arith
few-outcomes kind.OnPr = omega arith
few-outcomes kind.OnPx = omega arith
few-outcomes kind.OnLeft = omega arith
few-outcomes kind.OnRight = omega arith

-- the labels other than the first target, each with equally many clauses
pub length-free_landing : (n : ℕ) (k : Kind) (x e o w : ℕ) → ((z : ℕ) → length (trap_pair n k x e o z) ≡ w) → x < n
    → length (upto n (trap_of n k x e o)) ≡ (n - 1) * w
length-free_landing n k x e o w each x_in =
    less n _ (length-with_gap w x n (trap_of n k x e o) (λ z ne. ap length (trap_of-other n k x e o z ne) ∙ each z)
    (trap_of-same n k x e o x refl) x_in) x_in
  where
    less : (n l : ℕ) → l + w ≡ n * w → x < n → l ≡ (n - 1) * w
    less zero l h lt = absurd (omega arith)
    less (suc n) l h lt =
        let one_less : suc n - 1 ≡ n = omega arith in
        let same : l ≡ n * w = omega arith in
        same ∙ ap (λ m. m * w) (sym one_less)

-- class 3
pub length-given_class : (g : Graph) → length (given_class g) ≡ 2 * length g.pins + 2 + length g.instrs * (32 - g.rows)
length-given_class g =
    let pins : List (List ℤ) = each_of g.pins pin_clauses in
    let start : List (List ℤ) = at_clauses g.start 0 0 in
    let bounds : List (List ℤ) = upto (length g.instrs) (bound_clauses g.rows) in
    let p : length pins ≡ length g.pins * 2 = length-each g.pins pin_clauses 2 (λ k pin. refl) in
    let b : length bounds ≡ length g.instrs * (32 - g.rows) =
    length-upto (32 - g.rows) (length g.instrs) (bound_clauses g.rows) (λ i lt. length-bound g.rows i) in
    let front : length (pins ++ start) ≡ length pins + 2 = length-append pins start in
    length-append (pins ++ start) bounds ∙ total _ _ _ _ _ front p b
  where
    total : (l p b q c : ℕ) → l ≡ p + 2 → p ≡ q * 2 → b ≡ c → l + b ≡ 2 * q + 2 + c
    total l p b q c e f h = omega arith

-- all classes
pub length-clauses : (g : Graph) (a b c : ℕ) → length (given_class g) ≡ a → length (flow_class g) ≡ b → length (trap_class g) ≡ c
    → length (clauses_of g) ≡ 618 * length g.instrs + 48 * pairs_below (length g.instrs) + a + b + c
unfolding clauses_of
length-clauses g a b c ha hb hc =
    let n = length g.instrs in
    let l2 : length (cell_class n ++ apart_class n) ≡ length (cell_class n) + length (apart_class n) =
    length-append (cell_class n) (apart_class n) in
    let l3 : length (cell_class n ++ apart_class n ++ given_class g) ≡ length (cell_class n ++ apart_class n) + length (given_class g) =
    length-append (cell_class n ++ apart_class n) (given_class g) in
    let l4 : length (cell_class n ++ apart_class n ++ given_class g ++ flow_class g) ≡ length
    (cell_class n ++ apart_class n ++ given_class g) + length (flow_class g) =
    length-append (cell_class n ++ apart_class n ++ given_class g) (flow_class g) in
    length-append (cell_class n ++ apart_class n ++ given_class g ++ flow_class g) (trap_class g)
    ∙ total _ _ _ _ _ _ _ _ n (pairs_below n) (length-cell_class n) (length-apart_class n) l2 l3 l4 ha hb hc
  where
    total : (c1 c2 c3 c4 c5 l2 l3 l4 n p : ℕ) → c1 ≡ n * 618 → c2 ≡ p * 48 → l2 ≡ c1 + c2 → l3 ≡ l2 + c3 → l4 ≡ l3 + c4 → c3 ≡ a → c4 ≡ b
        → c5 ≡ c → l4 + c5 ≡ 618 * n + 48 * p + a + b + c
    total c1 c2 c3 c4 c5 l2 l3 l4 n p cells pairs two three four givens flows traps = omega arith

-- at most 512 labels times 32 rows
pub few-product : (a b : ℕ) → a ≤ 512 → b ≤ 32 → a * b ≤ 16384
few-product a b h k = mul-le a b 512 32 h k
