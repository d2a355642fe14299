-- The list of values has each value at its variable's number.
use Rattle.std.proofs.Common.{◌≡◌, ℕ, ◌+◌, ◌-◌, ◌*◌, ◌<◌, ◌≤◌, Bool, false, not, List, [], ◌++◌, length, get_or, Some, refl, sym, ap, ◌∙◌, arith}
use Rattle.std.specs.Prelude.{slice_get, ◌==◌}
use Rattle.std.specs.Option.{option_map_or}
use Rattle.std.proofs.lemmas.List.{length-append}
use Rattle.std.proofs.lemmas.Option.{slice_get_within, get_or_from_slice_get, slice_get-get_or}
use Rattle.mcu_jumps.specs.Position.{Position}
use Rattle.mcu_jumps.specs.declared.kinds.Kind.{Kind}
use Rattle.mcu_jumps.specs.declared.kinds.Kind.TheVariants as kind
use Rattle.flow_graph.specs.declared.instructions.Instr.{Instr}
use Rattle.flow_graph.specs.Graph.{Graph}
use Rattle.placement_clauses.specs.Upto.{upto, each_of}
use Rattle.clause_base.specs.TruthValues.{AllHold, truth_in}
use Rattle.placement_clauses.specs.Number.{row_var, col_var, differ_var, way_var, pairs_below}
use Rattle.placement_clauses.specs.FirstLabel.{first_label}
use Rattle.placement_clauses.specs.Clauses.{clauses_of}
use Rattle.place_model.specs.Legal.{IsLegal}
use Rattle.placement_clauses.proofs.CanJump.{IsValid}
use Rattle.placement_clauses.specs.Meaning.{row_at, col_at, one_hot, cell_truths, differ_truth, differ_truths, instr_truths, flow_truths, goto_truths, meaning}
use Rattle.placement_clauses.proofs.UptoLemmas.{length-upto, length-upto-le, length-singles, slice_get-singles, slice_get-upto, slice_get-blocks, slice_get-append_left, slice_get-append_right, length-triangle}
use Rattle.placement_clauses.proofs.SoundLemmas.{IsMeant, legal-sound}

-- the value at the place before its number
value-at : (vs : List Bool) (p v : ℕ) (b : Bool) → p + 1 ≡ v → slice_get vs p ≡ Some b → truth_in vs v ≡ b
value-at vs p v b e h =
    let at : v - 1 ≡ p = omega arith in
    get_or_from_slice_get vs (v - 1) b false (ap (slice_get vs) at ∙ h)

-- n values
length-one_hot : (n v : ℕ) → length (one_hot n v) ≡ n
length-one_hot n v = length-singles n (λ k. v == k)

-- a label has 48 values
length-cell_truths : (place : List Position) (i : ℕ) → length (cell_truths place i) ≡ 48
length-cell_truths place i = length-append (one_hot 32 (row_at place i)) (one_hot 16 (col_at place i))
    ∙ total _ _ (length-one_hot 32 (row_at place i)) (length-one_hot 16 (col_at place i))
  where
    total : (p q : ℕ) → p ≡ 32 → q ≡ 16 → p + q ≡ 48
    total p q a b = omega arith

-- an instruction has three values
length-flow_truths : (place : List Position) (s : ℕ) (x : Instr) → length (instr_truths place s x) ≡ 3
length-flow_truths place s x = by x.kind
  where
    by : (k : Kind) → length (flow_truths place s k x.targets) ≡ 3
    by kind.Goto = refl
    by _ = refl

-- the list of values is the table
pub meaning-meant : (g : Graph) (place : List Position) → IsMeant (truth_in (meaning g place)) g place
unfolding meaning
meaning-meant g place = record {
  rows = λ i k i_in k_in. value-at whole (i * 48 + k) (row_var i 0 + k) (row_at place i == k) (omega arith)
      (first (i * 48 + k) (in_block i k i_in (omega arith))
      ∙ slice_get-blocks 48 n (cell_truths place) i k (λ i lt. length-cell_truths place i) i_in (omega arith)
      ∙ slice_get-append_left (one_hot 32 (row_at place i)) (one_hot 16 (col_at place i)) k
      (shorter _ 32 k (length-one_hot 32 (row_at place i)) k_in) ∙ slice_get-singles 32 (λ k. row_at place i == k) k k_in);
  cols = λ i k i_in k_in. value-at whole (i * 48 + (32 + k)) (col_var i 0 + k) (col_at place i == k) (omega arith)
      (first (i * 48 + (32 + k)) (in_block i (32 + k) i_in (omega arith))
      ∙ slice_get-blocks 48 n (cell_truths place) i (32 + k) (λ i lt. length-cell_truths place i) i_in (omega arith)
      ∙ ap (λ m. slice_get (cell_truths place i) (m + k)) (sym (length-one_hot 32 (row_at place i)))
      ∙ slice_get-append_right (one_hot 32 (row_at place i)) (one_hot 16 (col_at place i)) k
      ∙ slice_get-singles 16 (λ k. col_at place i == k) k k_in);
  diffs = λ i j lt j_in. value-at whole (n * 48 + (pairs_below j + i)) (differ_var n i j) (not (row_at place i == row_at place j))
      (omega arith)
      (second (pairs_below j + i) (in_triangle i j lt j_in)
      ∙ ap (λ m. slice_get differs (m + i)) (sym (length-differs j))
      ∙ slice_get-upto n (differ_truths place) j i j_in
      (longer _ j i (length-singles j (λ i. not (row_at place i == row_at place j))) lt)
      ∙ slice_get-singles j (λ i. not (row_at place i == row_at place j)) i lt);
  same_col = λ s x e is. goto s 0 x _ e is (omega arith) refl;
  low = λ s x e is. goto s 1 x _ e is (omega arith) refl;
  same_row = λ s x e is. goto s 2 x _ e is (omega arith) refl;
}
  where
    n : ℕ
    n = length g.instrs

    cells : List Bool
    cells = upto (length g.instrs) (cell_truths place)

    differs : List Bool
    differs = upto (length g.instrs) (differ_truths place)

    flows : List Bool
    flows = each_of g.instrs (instr_truths place)

    whole : List Bool
    whole = upto (length g.instrs) (cell_truths place) ++ upto (length g.instrs) (differ_truths place) ++ each_of g.instrs
        (instr_truths place)

    length-cells : length (upto (length g.instrs) (cell_truths place)) ≡ length g.instrs * 48
    length-cells = length-upto 48 (length g.instrs) (cell_truths place) (λ i lt. length-cell_truths place i)

    length-differs : (j : ℕ) → length (upto j (differ_truths place)) ≡ pairs_below j
    length-differs j = length-triangle 1 j (λ i j. differ_truth place j i) (λ i j lt below. refl) ∙ once (pairs_below j)
      where
        once : (p : ℕ) → p * 1 ≡ p
        once p = omega arith

    shorter : (l m k : ℕ) → l ≡ m → k < m → k < l
    shorter l m k e lt = omega arith

    longer : (l m k : ℕ) → l ≡ m → k < m → k < l
    longer l m k e lt = omega arith

    in_block : (i k : ℕ) → i < length g.instrs → k < 48 → i * 48 + k < length g.instrs * 48
    in_block i k p q = omega arith

    in_triangle : (i j : ℕ) → i < j → j < length g.instrs → pairs_below j + i < pairs_below (length g.instrs)
    in_triangle i j lt j_in =
        least _ _ _ _ i j (length-upto-le (length g.instrs) (differ_truths place) j j_in) (length-differs j)
        (length-singles j (λ i. not (row_at place i == row_at place j))) (length-differs (length g.instrs)) lt
      where
        least : (l m p q i j : ℕ) → l + m ≤ p → l ≡ q → m ≡ j → p ≡ pairs_below (length g.instrs) → i < j
            → q + i < pairs_below (length g.instrs)
        least l m p q i j a b c d e = omega arith

    length-front : length
        (upto (length g.instrs) (cell_truths place) ++ upto (length g.instrs) (differ_truths place)) ≡ length g.instrs * 48 + pairs_below
        (length g.instrs)
    length-front = length-append (upto (length g.instrs) (cell_truths place)) (upto (length g.instrs) (differ_truths place))
        ∙ both _ _ _ _ length-cells (length-differs (length g.instrs))
      where
        both : (l m p q : ℕ) → l ≡ p → m ≡ q → l + m ≡ p + q
        both l m p q a b = omega arith

    first : (p : ℕ) → p < length g.instrs * 48
        → slice_get (upto (length g.instrs) (cell_truths place) ++ upto (length g.instrs) (differ_truths place) ++ each_of g.instrs
        (instr_truths place)) p ≡ slice_get (upto (length g.instrs) (cell_truths place)) p
    first p lt = slice_get-append_left (upto (length g.instrs) (cell_truths place) ++ upto (length g.instrs) (differ_truths place))
        (each_of g.instrs (instr_truths place)) p (omega (arith, length-front))
        ∙ slice_get-append_left (upto (length g.instrs) (cell_truths place)) (upto (length g.instrs) (differ_truths place)) p
        (omega (arith, length-cells))

    second : (p : ℕ) → p < pairs_below (length g.instrs)
        → slice_get (upto (length g.instrs) (cell_truths place) ++ upto (length g.instrs) (differ_truths place) ++ each_of g.instrs
        (instr_truths place)) (length g.instrs * 48 + p) ≡ slice_get (upto (length g.instrs) (differ_truths place)) p
    second p lt = slice_get-append_left (upto (length g.instrs) (cell_truths place) ++ upto (length g.instrs) (differ_truths place))
        (each_of g.instrs (instr_truths place)) (length g.instrs * 48 + p) (omega (arith, length-front))
        ∙ ap (λ m. slice_get (upto (length g.instrs) (cell_truths place) ++ upto (length g.instrs) (differ_truths place)) (m + p))
        (sym length-cells) ∙ slice_get-append_right (upto (length g.instrs) (cell_truths place))
        (upto (length g.instrs) (differ_truths place)) p

    goto : (s t : ℕ) (x : Instr) (b : Bool) → slice_get g.instrs s ≡ Some x → x.kind ≡ kind.Goto → t < 3
        → slice_get (goto_truths place s (first_label x.targets)) t ≡ Some b
        → truth_in (upto (length g.instrs) (cell_truths place) ++ upto (length g.instrs) (differ_truths place) ++ each_of g.instrs
        (instr_truths place)) (way_var (length g.instrs) s t) ≡ b
    goto s t x b e is t_in there =
        value-at whole (length (upto (length g.instrs) (cell_truths place) ++ upto (length g.instrs) (differ_truths place)) + (s * 3 + t))
        (way_var (length g.instrs) s t) b (omega (arith, length-front))
        (slice_get-append_right (upto (length g.instrs) (cell_truths place) ++ upto (length g.instrs) (differ_truths place))
        (each_of g.instrs (instr_truths place)) (s * 3 + t)
        ∙ slice_get-blocks 3 (length g.instrs) (λ i. option_map_or (instr_truths place i) (slice_get g.instrs i) []) s t block
        (slice_get_within g.instrs s x e) t_in
        ∙ ap (λ o. slice_get (option_map_or (instr_truths place s) o []) t) e
        ∙ ap (λ (k : Kind). slice_get (flow_truths place s k x.targets) t) is ∙ there)
      where
        block : (i : ℕ) → i < length g.instrs → length (option_map_or (instr_truths place i) (slice_get g.instrs i) []) ≡ 3
        block i lt = ap (λ o. length (option_map_or (instr_truths place i) o [])) (slice_get-get_or g.instrs i x lt)
            ∙ length-flow_truths place i (get_or g.instrs i x)

-- soundness: the values of a legal placement make every clause true
pub meaning-sound : (g : Graph) (place : List Position) → IsValid g → IsLegal g place
    → AllHold (truth_in (meaning g place)) (clauses_of g)
meaning-sound g place valid legal = legal-sound (truth_in (meaning g place)) g place valid legal (meaning-meant g place)
