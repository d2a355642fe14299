-- A program has at most 16,000,000 clauses: it has at most 512 labels, each with at most 16 outcomes.
use Rattle.std.proofs.Common.{◌≡◌, ℕ, zero, suc, ◌+◌, ◌-◌, ◌*◌, ◌<◌, ◌≤◌, Bool, true, false, List, [], ◌++◌, length, Option, Some, None, refl, ap, ◌∙◌, arith, ◌^◌}
use Rattle.std.specs.Prelude.{slice_get, if◌then◌else◌, ◌==◌}
use Rattle.std.specs.Option.{option_map_or}
use Rattle.std.proofs.lemmas.List.{length-append}
use Rattle.std.proofs.lemmas.Nat.{mul-le}
use Rattle.mcu_jumps.specs.declared.kinds.Kind.{Kind}
use Rattle.mcu_jumps.specs.declared.kinds.Kind.TheVariants as kind
use Rattle.mcu_jumps.specs.Landing.{outcomes_of}
use Rattle.flow_graph.specs.declared.instructions.Instr.{Instr}
use Rattle.flow_graph.specs.declared.programs.Program.{Program}
use Rattle.flow_graph.specs.Valid.{IsInstr}
use Rattle.flow_graph.specs.Graph.{graph_of}
use Rattle.placement_clauses.specs.Upto.{upto, at_place, each_of}
use Rattle.placement_clauses.specs.Number.{row_var, pairs_below, var_count_of}
use Rattle.placement_clauses.specs.Shape.{same}
use Rattle.placement_clauses.specs.FirstLabel.{first_real, first_label}
use Rattle.placement_clauses.specs.Reaching.{keeps_half}
use Rattle.placement_clauses.specs.Clauses.{col_clauses, outcome_clauses, target_clauses, test_clauses, flow_clauses, instr_clauses, trap_pair, trap_of, trap_outcome, trap_clauses, instr_traps, given_class, flow_class, trap_class, clauses_of}
use Rattle.placement_clauses.proofs.UptoLemmas.{upto-none, upto-suc}
use Rattle.placement_clauses.proofs.PinLemmas.{few-pins_of}
use Rattle.placement_clauses.proofs.CountLemmas.{length-same, length-goto, length-enable, length-cols, length-test, length-trap_pair, length-given_class, length-clauses, few-outcomes, few-product}

-- blocks that are not longer than m
few-upto : {A : Type 0} (m n : ℕ) (f : ℕ → List A) → ((k : ℕ) → length (f k) ≤ m) → length (upto n f) ≤ n * m
few-upto m zero f h = let none : length (upto 0 f) ≡ 0 = ap length (upto-none f) in omega arith
few-upto m (suc n) f h =
    let whole : length (upto (suc n) f) ≡ length (upto n f) + length (f n) = ap length (upto-suc n f) ∙ length-append (upto n f) (f n) in
    let before : length (upto n f) ≤ n * m = few-upto m n f h in
    let last : length (f n) ≤ m = h n in
    omega arith

-- elements with at most m clauses each
few-each : {X A : Type 0} (xs : List X) (f : ℕ → X → List A) (m : ℕ) → ((i : ℕ) (x : X) → slice_get xs i ≡ Some x → length (f i x) ≤ m)
    → length (each_of xs f) ≤ length xs * m
few-each {X} {A} xs f m h = few-upto m (length xs) (at_place xs f) (λ i. block i (slice_get xs i) refl)
  where
    block : (i : ℕ) (o : Option X) → slice_get xs i ≡ o → length (option_map_or (f i) o []) ≤ m
    block i (Some x) at = h i x at
    block i None at = omega arith

few-cols : (k : Kind) (s o y : ℕ) → length (col_clauses k s o y) ≤ 16
few-cols k s o y = by (keeps_half k) (length-cols k s o y)
  where
    by : (b : Bool) → length (col_clauses k s o y) ≡ (if b then 16 else 1) → length (col_clauses k s o y) ≤ 16
    by true e = omega arith
    by false e = omega arith

few-outcome : (k : Kind) (s e x o y : ℕ) → length (outcome_clauses k s e x o y) ≤ 48
few-outcome k s e x o y = by (o == e)
  where
    by : (b : Bool) → length ((if b then [] else same 32 (row_var x 0) (row_var y 0)) ++ col_clauses k s o y) ≤ 48
    by true = let cols : length (col_clauses k s o y) ≤ 16 = few-cols k s o y in omega arith
    by false =
        let cols : length (col_clauses k s o y) ≤ 16 = few-cols k s o y in
        let rows : length (same 32 (row_var x 0) (row_var y 0)) ≡ 32 = length-same 32 (row_var x 0) (row_var y 0) in
        let both : length (same 32 (row_var x 0) (row_var y 0) ++ col_clauses k s o y) ≡ length (same 32 (row_var x 0) (row_var y 0))
        + length (col_clauses k s o y) = length-append (same 32 (row_var x 0) (row_var y 0)) (col_clauses k s o y) in
        omega arith

few-target : (k : Kind) (s e x o : ℕ) (target : Option ℕ) → length (target_clauses k s e x o target) ≤ 48
few-target k s e x o (Some y) = few-outcome k s e x o y
few-target k s e x o None = omega arith

few-test : (k : Kind) (s : ℕ) (ts : List (Option ℕ)) (e x : ℕ) → length ts ≤ 16 → length (test_clauses k s ts e x) ≤ 800
few-test k s ts e x few =
    let m = length (each_of ts (target_clauses k s e x)) in
    let targets : m ≤ length ts * 48 = few-each ts (target_clauses k s e x) 48 (λ o target at. few-target k s e x o target) in
    let whole : length (test_clauses k s ts e x) ≡ 32 + m = length-test k s ts e x m refl in
    omega arith

few-flow : (n s : ℕ) (k : Kind) (ts : List (Option ℕ)) → length ts ≤ 16 → length (flow_clauses n s k ts) ≤ 800
unfolding flow_clauses
few-flow n s kind.Goto ts few = let e = length-goto n s (first_label ts) in omega (arith, e)
few-flow n s kind.Strobe ts few = omega arith
few-flow n s kind.Enable ts few = let e = length-enable s (first_label ts) in omega (arith, e)
few-flow n s kind.IfF ts few = few-test kind.IfF s ts (first_real ts) (first_label ts) few
few-flow n s kind.IfC ts few = few-test kind.IfC s ts (first_real ts) (first_label ts) few
few-flow n s kind.IfZ ts few = few-test kind.IfZ s ts (first_real ts) (first_label ts) few
few-flow n s kind.OnPr ts few = few-test kind.OnPr s ts (first_real ts) (first_label ts) few
few-flow n s kind.OnPx ts few = few-test kind.OnPx s ts (first_real ts) (first_label ts) few
few-flow n s kind.OnLeft ts few = few-test kind.OnLeft s ts (first_real ts) (first_label ts) few
few-flow n s kind.OnRight ts few = few-test kind.OnRight s ts (first_real ts) (first_label ts) few

few-pair : (n : ℕ) (k : Kind) (x e o z : ℕ) → length (trap_pair n k x e o z) ≤ 2
few-pair n k x e o z = by (keeps_half k) (length-trap_pair n k x e o z)
  where
    by : (b : Bool) → length (trap_pair n k x e o z) ≡ (if b then 2 else 1) → length (trap_pair n k x e o z) ≤ 2
    by true h = omega arith
    by false h = omega arith

few-trap_of : (n : ℕ) (k : Kind) (x e o z : ℕ) → length (trap_of n k x e o z) ≤ 2
few-trap_of n k x e o z = by (z == x)
  where
    by : (b : Bool) → length (if b then [] else trap_pair n k x e o z) ≤ 2
    by true = omega arith
    by false = few-pair n k x e o z

few-trap_outcome : (n : ℕ) (k : Kind) (x e o : ℕ) (target : Option ℕ) → n ≤ 512 → length (trap_outcome n k x e o target) ≤ 1024
few-trap_outcome n k x e o (Some y) few = omega arith
few-trap_outcome n k x e o None few =
    let all : length (upto n (trap_of n k x e o)) ≤ n * 2 = few-upto 2 n (trap_of n k x e o) (few-trap_of n k x e o) in
    omega arith

few-traps : (n : ℕ) (k : Kind) (ts : List (Option ℕ)) → n ≤ 512 → length ts ≤ 16 → length (trap_clauses n k ts) ≤ 16384
unfolding trap_clauses
few-traps n k ts labels few =
    let all : length (each_of ts (trap_outcome n k (first_label ts) (first_real ts))) ≤ length ts * 1024 =
    few-each ts (trap_outcome n k (first_label ts) (first_real ts)) 1024
    (λ o target at. few-trap_outcome n k (first_label ts) (first_real ts) o target labels) in
    omega arith

-- the targets of an instruction of a program are at most 16
few-targets : (n : ℕ) (instr : Instr) → IsInstr n instr → length instr.targets ≤ 16
few-targets n instr valid = let few : outcomes_of instr.kind ≤ 16 = few-outcomes instr.kind in
    omega (arith, valid.target_for_each_outcome)

few-flow_class : (program : Program) → length (flow_class (graph_of program)) ≤ 409600
few-flow_class program =
    let g = graph_of program in
    let n = length g.instrs in
    let labels : n ≤ 512 = program.valid.cells_for_all in
    let all : length (flow_class g) ≤ n * 800 =
    few-each g.instrs (instr_clauses n) 800
    (λ s instr at. few-flow n s instr.kind instr.targets (few-targets n instr (program.valid.each_instr s instr at))) in
    omega arith

few-trap_class : (program : Program) → length (trap_class (graph_of program)) ≤ 8388608
few-trap_class program =
    let g = graph_of program in
    let n = length g.instrs in
    let labels : n ≤ 512 = program.valid.cells_for_all in
    let all : length (trap_class g) ≤ n * 16384 =
    few-each g.instrs (instr_traps n) 16384
    (λ s instr at. few-traps n instr.kind instr.targets labels (few-targets n instr (program.valid.each_instr s instr at))) in
    omega arith

few-given_class : (program : Program) → length (given_class (graph_of program)) ≤ 17410
few-given_class program =
    let g = graph_of program in
    let n = length g.instrs in
    let labels : n ≤ 512 = program.valid.cells_for_all in
    let pins : length g.pins ≤ 512 = few-pins_of program in
    let rows : n * (32 - g.rows) ≤ 16384 = few-product n (32 - g.rows) labels (omega arith) in
    let whole : length (given_class g) ≡ 2 * length g.pins + 2 + n * (32 - g.rows) = length-given_class g in
    omega arith

few-pairs : (n : ℕ) → n ≤ 512 → pairs_below n ≤ 131072
few-pairs n labels =
    let product : n * (n - 1) ≤ 512 * 512 = mul-le n (n - 1) 512 512 labels (omega arith) in
    omega arith

-- all clauses of a program
pub few_clauses : (program : Program) → length (clauses_of (graph_of program)) ≤ 16000000
few_clauses program =
    let g = graph_of program in
    let n = length g.instrs in
    let labels : n ≤ 512 = program.valid.cells_for_all in
    let pairs : pairs_below n ≤ 131072 = few-pairs n labels in
    let whole : length (clauses_of g) ≡ 618 * n + 48 * pairs_below n + length (given_class g) + length (flow_class g) + length
    (trap_class g) = length-clauses g _ _ _ refl refl refl in
    total n (pairs_below n) (length (given_class g)) (length (flow_class g)) (length (trap_class g)) (length (clauses_of g)) labels pairs
    (few-given_class program) (few-flow_class program) (few-trap_class program) whole
  where
    total : (n p c3 c4 c5 all : ℕ) → n ≤ 512 → p ≤ 131072 → c3 ≤ 17410 → c4 ≤ 409600 → c5 ≤ 8388608
        → all ≡ 618 * n + 48 * p + c3 + c4 + c5 → all ≤ 16000000
    total n p c3 c4 c5 all a b c d e f = omega arith

-- a program has fewer variables than 32 bits hold
pub few_vars : (program : Program) → var_count_of (length (graph_of program).instrs) < 2 ^ 32
few_vars program =
    let n = length (graph_of program).instrs in
    let labels : n ≤ 512 = program.valid.cells_for_all in
    let pairs : pairs_below n ≤ 131072 = few-pairs n labels in
    omega (arith, labels, pairs)
