-- What makes every clause true is a legal placement.
use Rattle.std.proofs.Common.{◌≡◌, ℕ, ℤ, ◌+◌, ◌<◌, ◌⊎◌, inl, inr, Bool, true, List, [], ◌∷◌, ◌++◌, length, Option, Some, sym, ap, subst, ◌∙◌, arith}
use Rattle.std.specs.Prelude.{slice_get, is_some}
use Rattle.std.specs.List.{list_any}
use Rattle.std.proofs.lemmas.List.{length_push}
use Rattle.std.proofs.lemmas.Option.{slice_get_within, same_Some}
use Rattle.std.proofs.lemmas.Bool.{cases_lt}
use Rattle.mcu_jumps.specs.Position.{Position, IsCell}
use Rattle.mcu_jumps.specs.JumpWord.{JumpWord}
use Rattle.mcu_jumps.specs.declared.kinds.Kind.{Kind}
use Rattle.mcu_jumps.specs.declared.kinds.Kind.TheVariants as kind
use Rattle.mcu_jumps.specs.declared.codes.Code.{Code}
use Rattle.mcu_jumps.specs.Landing.{outcomes_of}
use Rattle.flow_graph.specs.Graph.{Graph}
use Rattle.place_model.specs.Legal.{IsLegal, origin}
use Rattle.placement_clauses.specs.PinCells.{HavePinCells}
use Rattle.placement_clauses.specs.Upto.{upto, each_of}
use Rattle.clause_base.specs.TruthValues.{clause_holds, AllHold}
use Rattle.placement_clauses.specs.Number.{row_var, col_var}
use Rattle.placement_clauses.specs.Shape.{one, any_of}
use Rattle.placement_clauses.specs.FirstLabel.{first_label}
use Rattle.placement_clauses.specs.Meaning.{row_at, col_at, HaveTrueCells}
use Rattle.placement_clauses.specs.Clauses.{at_clauses, bound_clauses, flow_clauses, trap_clauses, cell_class, apart_class, given_class, flow_class, trap_class, clauses_of, pin_clauses, instr_clauses, instr_traps}
use Rattle.placement_clauses.proofs.CanJump.{CanJump, IsValid, has-from_can}
use Rattle.placement_clauses.proofs.JumpLemmas.{row-of, col-of, same_cell, cell-at}
use Rattle.placement_clauses.proofs.CellLemmas.{at-holds, bound-holds}
use Rattle.placement_clauses.proofs.OneTargetLemmas.{OneTarget, first-target, only-target, can-goto, can-strobe, can-enable, enable-holds}
use Rattle.placement_clauses.proofs.EachTest.{IsTest, IsSingle, kind-cases, single-outcome, test-jump}
use Rattle.clause_base.proofs.ListLemmas.{All-append_left, All-append_right}
use Rattle.placement_clauses.proofs.UptoLemmas.{upto-All, slice_get-append_left, slice_get-append_right}
use Rattle.placement_clauses.proofs.TruthLemmas.{IsHot, hot-is, hot-any}
use Rattle.placement_clauses.proofs.PlacedLemmas.{IsPlaced, Differ, cell_class-holds, apart_class-holds, differ-apart, goto-holds}
use Rattle.placement_clauses.proofs.TestLemmas.{each-holds, InRange}

-- the jump of a statement with one target, by its clauses
single-holds : (a : ℕ → Bool) (n : ℕ) (place : List Position) (s : ℕ) (from : Position) (ts : List (Option ℕ)) (k : Kind) → IsSingle k
    → OneTarget a n place s from ts (first_label ts)
    → AllHold a (flow_clauses n s k ts) → (j : JumpWord) × CanJump place k ts from j
unfolding flow_clauses
single-holds a n place s from ts kind.Goto is w h =
    let m = first_label ts in
    can-goto a n place s from ts m w
    (goto-holds a n (row_at place) (col_at place) s m (w.placed.rows s w.source) (w.placed.cols s w.source) (w.placed.rows m w.target)
    (w.placed.cols m w.target) h)
single-holds a n place s from ts kind.Strobe is w h =
    let m = first_label ts in
    let cell = at-holds a m 0 15 (row_at place m) (col_at place m) (w.placed.rows m w.target) (w.placed.cols m w.target) (omega arith)
    (omega arith) h in
    can-strobe a n place s from ts m w cell.0 cell.1
single-holds a n place s from ts kind.Enable is w h =
    let m = first_label ts in
    can-enable a n place s from ts m w (enable-holds a n place s m w.placed w.source w.target h)
single-holds a n place s from ts _ is w h = absurd is

-- the jump of an instruction, by its clauses
jump-holds : (a : ℕ → Bool) (n : ℕ) (place : List Position) (s : ℕ) (from : Position) (k : Kind) (ts : List (Option ℕ))
    → IsPlaced a n (row_at place) (col_at place) → length place ≡ n → ((i : ℕ) (p : Position) → slice_get place i ≡ Some p → IsCell p)
    → ((i j : ℕ) → i < j → j < n → Differ a n (row_at place) (col_at place) i j) → slice_get place s ≡ Some from → s < n
    → length ts ≡ outcomes_of k → list_any is_some ts ≡ true → ((o y : ℕ) → slice_get ts o ≡ Some (Some y) → y < n)
    → AllHold a (flow_clauses n s k ts) → AllHold a (trap_clauses n k ts) → (j : JumpWord) × CanJump place k ts from j
unfolding InRange
jump-holds a n place s from k ts p len cells differ at s_in count some in_range h traps = by (kind-cases k)
  where
    by : IsSingle k ⊎ ((c : Code) × IsTest k c) → (j : JumpWord) × CanJump place k ts from j
    by (inl single) =
        let one_long : length ts ≡ 1 = count ∙ single-outcome k single in
        let first = first-target ts one_long some in
        single-holds a n place s from ts k single
        (record {
          placed = p;
          count = len;
          at = at;
          source = s_in;
          target = in_range 0 (first_label ts) first;
          alone = only-target ts one_long some;
          first = first;
        }) h
    by (inr test) = test-jump a n place s from k test.0 ts test.1 p len cells differ at s_in count some in_range h traps

-- a placement whose rows and columns are those of the values
pub record IsRead (a : ℕ → Bool) (n : ℕ) (place : List Position) : Type 0 where
  pub count : length place ≡ n
  pub cells : (i : ℕ) (p : Position) → slice_get place i ≡ Some p → IsCell p
  pub placed : IsPlaced a n (row_at place) (col_at place)

-- such a placement is legal where the values make every clause true
pub legal-from : (a : ℕ → Bool) (g : Graph) (place : List Position) → IsValid g → HavePinCells g.pins → IsRead a (length g.instrs) place
    → AllHold a (clauses_of g) → IsLegal g place
unfolding clauses_of InRange
legal-from a g place valid cells_of_pins read h = record {
  cell_for_each_label = read.count;
  in_matrix = read.cells;
  cells_differ = λ i j cell i_at j_at. one_label i j cell i_at j_at;
  pins_kept = λ k pin there. at_cell pin.label pin.cell (valid.pins_in_range k pin there) (cells_of_pins k pin there)
      (each-holds a g.pins pin_clauses k pin pins there);
  start_at_origin = at_cell g.start origin valid.start_in_range (record { row = omega arith; col = omega arith }) start;
  below_bound = λ i p i_at. subst (λ r. r < g.rows) (row-of place i p i_at)
      (bound-holds a g.rows i (row_at place i) (read.placed.rows i (within i p i_at))
      (upto-All P n (bound_clauses g.rows) bounds i (within i p i_at)));
  each_has_jump = λ s x from x_at from_at. has-from_can place x from
      (jump-holds a n place s from x.kind x.targets read.placed read.count read.cells differ from_at (within s from from_at)
      (valid.each_instr s x x_at).target_for_each_outcome (valid.each_instr s x x_at).some_label
      (valid.each_instr s x x_at).targets_in_range
      (each-holds a g.instrs (instr_clauses n) s x flows x_at) (each-holds a g.instrs (instr_traps n) s x traps x_at));
}
  where
    n : ℕ
    n = length g.instrs

    P : List ℤ → Type 0
    P c = clause_holds a c ≡ true

    front : AllHold a (cell_class (length g.instrs) ++ apart_class (length g.instrs) ++ given_class g ++ flow_class g)
    front = All-append_left (λ c. clause_holds a c ≡ true)
        (cell_class (length g.instrs) ++ apart_class (length g.instrs) ++ given_class g ++ flow_class g) (trap_class g) h

    traps : AllHold a (trap_class g)
    traps = All-append_right (λ c. clause_holds a c ≡ true)
        (cell_class (length g.instrs) ++ apart_class (length g.instrs) ++ given_class g ++ flow_class g) (trap_class g) h

    three : AllHold a (cell_class (length g.instrs) ++ apart_class (length g.instrs) ++ given_class g)
    three = All-append_left (λ c. clause_holds a c ≡ true)
        (cell_class (length g.instrs) ++ apart_class (length g.instrs) ++ given_class g) (flow_class g) front

    flows : AllHold a (flow_class g)
    flows = All-append_right (λ c. clause_holds a c ≡ true)
        (cell_class (length g.instrs) ++ apart_class (length g.instrs) ++ given_class g) (flow_class g) front

    third : AllHold a (given_class g)
    third = All-append_right (λ c. clause_holds a c ≡ true) (cell_class (length g.instrs) ++ apart_class (length g.instrs))
        (given_class g) three

    second : AllHold a (apart_class (length g.instrs))
    second = All-append_right (λ c. clause_holds a c ≡ true) (cell_class (length g.instrs)) (apart_class (length g.instrs))
        (All-append_left (λ c. clause_holds a c ≡ true) (cell_class (length g.instrs) ++ apart_class (length g.instrs)) (given_class g)
        three)

    ends : AllHold a (each_of g.pins pin_clauses ++ at_clauses g.start 0 0)
    ends = All-append_left (λ c. clause_holds a c ≡ true) (each_of g.pins pin_clauses ++ at_clauses g.start 0 0)
        (upto (length g.instrs) (bound_clauses g.rows)) third

    bounds : AllHold a (upto (length g.instrs) (bound_clauses g.rows))
    bounds = All-append_right (λ c. clause_holds a c ≡ true) (each_of g.pins pin_clauses ++ at_clauses g.start 0 0)
        (upto (length g.instrs) (bound_clauses g.rows)) third

    pins : AllHold a (each_of g.pins pin_clauses)
    pins = All-append_left (λ c. clause_holds a c ≡ true) (each_of g.pins pin_clauses) (at_clauses g.start 0 0) ends

    start : AllHold a (at_clauses g.start 0 0)
    start = All-append_right (λ c. clause_holds a c ≡ true) (each_of g.pins pin_clauses) (at_clauses g.start 0 0) ends

    within : (i : ℕ) (p : Position) → slice_get place i ≡ Some p → i < length g.instrs
    within i p e = let lt : i < length place = slice_get_within place i p e in let len : length place ≡ length g.instrs = read.count in
        omega arith

    differ : (i j : ℕ) → i < j → j < length g.instrs → Differ a (length g.instrs) (row_at place) (col_at place) i j
    differ i j lt below = apart_class-holds a (length g.instrs) (row_at place) (col_at place) read.placed second i j lt below

    one_label : (i j : ℕ) (cell : Position) → slice_get place i ≡ Some cell → slice_get place j ≡ Some cell → i ≡ j
    one_label i j cell i_at j_at =
        let same_row : row_at place i ≡ row_at place j = row-of place i cell i_at ∙ sym (row-of place j cell j_at) in
        let same_col : col_at place i ≡ col_at place j = col-of place i cell i_at ∙ sym (col-of place j cell j_at) in
        let not_before : i < j
        → ⊥ = λ (lt : i < j). differ-apart a n (row_at place) (col_at place) i j (differ i j lt (within j cell j_at))
        same_row same_col in
        let not_after : j < i
        → ⊥ = λ (lt : j < i). differ-apart a n (row_at place) (col_at place) j i (differ j i lt (within i cell i_at)) (sym same_row)
        (sym same_col) in
        omega arith

    at_cell : (i : ℕ) (cell : Position) → i < length g.instrs → IsCell cell → AllHold a (at_clauses i cell.row cell.col)
        → slice_get place i ≡ Some cell
    at_cell i cell lt is h =
        let p = cell-at place (length g.instrs) i read.count lt in
        let two = at-holds a i cell.row cell.col (row_at place i) (col_at place i) (read.placed.rows i lt) (read.placed.cols i lt)
        is.row is.col h in
        p.1 ∙ ap Some (same_cell p.0 cell (sym (row-of place i p.0 p.1) ∙ two.0) (sym (col-of place i p.0 p.1) ∙ two.1))

-- a cell whose row and column are true in the values
pub record IsReadCell (a : ℕ → Bool) (i : ℕ) (p : Position) : Type 0 where
  pub row_in : p.row < 32
  pub col_in : p.col < 16
  pub row : a (row_var i 0 + p.row) ≡ true
  pub col : a (col_var i 0 + p.col) ≡ true

-- the variables of such cells are true
pub true-cells : (a : ℕ → Bool) (place : List Position) → ((i : ℕ) (p : Position) → slice_get place i ≡ Some p → IsReadCell a i p)
    → HaveTrueCells a place
true-cells a place cells = λ i p at.
    let read : IsReadCell a i p = cells i p at in
    let row_is : row_var i 0 + p.row ≡ row_var i p.row = omega arith in
    let col_is : col_var i 0 + p.col ≡ col_var i p.col = omega arith in
    (ap a (sym row_is) ∙ read.row, ap a (sym col_is) ∙ read.col)

-- class 1, one label
pub cell_class-rows : (a : ℕ → Bool) (g : Graph) (i : ℕ) → i < length g.instrs → AllHold a (clauses_of g)
    → AllHold a (one (any_of 32 (row_var i 0))) × AllHold a (one (any_of 16 (col_var i 0)))
unfolding clauses_of
cell_class-rows a g i lt h =
    let n = length g.instrs in
    let P : List ℤ → Type 0 = λ c. clause_holds a c ≡ true in
    let first_four : AllHold a (cell_class n ++ apart_class n ++ given_class g ++ flow_class g) =
    All-append_left P (cell_class n ++ apart_class n ++ given_class g ++ flow_class g) (trap_class g) h in
    let first_three : AllHold a (cell_class n ++ apart_class n ++ given_class g) =
    All-append_left P (cell_class n ++ apart_class n ++ given_class g) (flow_class g) first_four in
    let first_two : AllHold a (cell_class n ++ apart_class n) =
    All-append_left P (cell_class n ++ apart_class n) (given_class g) first_three in
    let cells : AllHold a (cell_class n) = All-append_left P (cell_class n) (apart_class n) first_two in
    let two = cell_class-holds a n cells i lt in
    (hot-any a 32 (row_var i 0) two.0.0 two.0.1, hot-any a 16 (col_var i 0) two.1.0 two.1.1)

-- the cells that were read are a placement with the rows and columns of the values
pub read-from : (a : ℕ → Bool) (g : Graph) (place : List Position) → AllHold a (clauses_of g) → length place ≡ length g.instrs
    → ((i : ℕ) (p : Position) → slice_get place i ≡ Some p → IsReadCell a i p) → IsRead a (length g.instrs) place
unfolding clauses_of
read-from a g place h count cells = record {
  count = count;
  cells = λ i p e. let r = cells i p e in record { row = r.row_in; col = r.col_in };
  placed = record {
    rows = λ i lt. let p = cell-at place (length g.instrs) i count lt in let r = cells i p.0 p.1 in
        let two = cell_class-holds a (length g.instrs) first i lt in
        subst (IsHot a 32 (row_var i 0)) (hot-is a 32 (row_var i 0) two.0.0 p.0.row two.0.1 r.row_in r.row ∙ sym (row-of place i p.0 p.1))
        two.0.1;
    cols = λ i lt. let p = cell-at place (length g.instrs) i count lt in let r = cells i p.0 p.1 in
        let two = cell_class-holds a (length g.instrs) first i lt in
        subst (IsHot a 16 (col_var i 0)) (hot-is a 16 (col_var i 0) two.1.0 p.0.col two.1.1 r.col_in r.col ∙ sym (col-of place i p.0 p.1))
        two.1.1;
  };
}
  where
    first : AllHold a (cell_class (length g.instrs))
    first = All-append_left (λ c. clause_holds a c ≡ true) (cell_class (length g.instrs)) (apart_class (length g.instrs))
        (All-append_left (λ c. clause_holds a c ≡ true) (cell_class (length g.instrs) ++ apart_class (length g.instrs)) (given_class g)
        (All-append_left (λ c. clause_holds a c ≡ true) (cell_class (length g.instrs) ++ apart_class (length g.instrs) ++ given_class g)
        (flow_class g) (All-append_left (λ c. clause_holds a c ≡ true)
        (cell_class (length g.instrs) ++ apart_class (length g.instrs) ++ given_class g ++ flow_class g) (trap_class g) h)))

-- one cell more
pub read-more : (a : ℕ → Bool) (place : List Position) (n : ℕ) (q : Position) → length place ≡ n
    → ((i : ℕ) (p : Position) → slice_get place i ≡ Some p → IsReadCell a i p) → IsReadCell a n q → (i : ℕ) (p : Position)
    → slice_get (place ++ q ∷ []) i ≡ Some p → IsReadCell a i p
read-more a place n q len h k i p e =
    elim (cases_lt i (length place)) as (λ _. IsReadCell a i p) [
      | inl below ↦ h i p (sym (slice_get-append_left place (q ∷ []) i below) ∙ e)
      | inr above ↦
          let within : i < length (place ++ q ∷ []) = slice_get_within (place ++ q ∷ []) i p e in
          let long : length (place ++ q ∷ []) ≡ length place + 1 = length_push place q in
          let at : i ≡ length place + 0 = omega arith in
          let is : i ≡ n = omega arith in
          let there : Some q ≡ Some p = sym (slice_get-append_right place (q ∷ []) 0) ∙ ap (slice_get (place ++ q ∷ [])) (sym at) ∙ e in
          let same : q ≡ p = same_Some q p there in
          subst (λ (p : Position). IsReadCell a i p) same (subst (λ (i : ℕ). IsReadCell a i q) (sym is) k)
    ]
