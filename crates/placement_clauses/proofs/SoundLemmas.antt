-- A legal placement makes every clause true.
use Rattle.std.proofs.Common.{◌≡◌, ◌≢◌, ℕ, ℤ, ◌+◌, ◌<◌, ◌≤◌, ◌⊎◌, inl, inr, Bool, true, false, not, ◌&&◌, List, ◌++◌, length, Some, refl, sym, ap, subst, ◌∙◌, arith}
use Rattle.std.specs.Prelude.{slice_get, ◌==◌, nat_lt, if◌then◌else◌}
use Rattle.std.proofs.lemmas.List.Elements.{All-append}
use Rattle.std.proofs.lemmas.Option.{slice_get_within}
use Rattle.std.proofs.lemmas.Bool.{cases_lt, eq-eqb, eqb-true, ltb-true, ltb-false, not-false}
use Rattle.mcu_jumps.specs.Position.{Position}
use Rattle.mcu_jumps.specs.JumpWord.{JumpWord}
use Rattle.mcu_jumps.specs.declared.kinds.Kind.{Kind}
use Rattle.mcu_jumps.specs.declared.kinds.Kind.TheVariants as kind
use Rattle.mcu_jumps.specs.declared.codes.Code.{Code}
use Rattle.flow_graph.specs.declared.instructions.Instr.{Instr}
use Rattle.flow_graph.specs.Graph.{Graph}
use Rattle.flow_graph.specs.Valid.{IsInstr}
use Rattle.place_model.specs.Legal.{IsLegal}
use Rattle.placement_clauses.specs.Upto.{upto, each_of}
use Rattle.clause_base.specs.TruthValues.{clause_holds, AllHold}
use Rattle.placement_clauses.specs.Number.{row_var, col_var, differ_var, pair_var, way_var}
use Rattle.placement_clauses.specs.FirstLabel.{first_label}
use Rattle.placement_clauses.specs.Meaning.{row_at, col_at}
use Rattle.placement_clauses.specs.Clauses.{at_clauses, bound_clauses, flow_clauses, trap_clauses, cell_class, apart_class, given_class, flow_class, trap_class, clauses_of, pin_clauses, instr_clauses, instr_traps}
use Rattle.placement_clauses.proofs.CanJump.{CanJump, IsValid, can-from_has}
use Rattle.placement_clauses.proofs.JumpLemmas.{row-of, col-of, same_cell, cell-at}
use Rattle.placement_clauses.proofs.CellLemmas.{holds-at, holds-bound}
use Rattle.placement_clauses.proofs.OneTargetLemmas.{OneTarget, first-target, only-target, holds-no_traps, goto-fits, strobe-fits, enable-fits, holds-enable}
use Rattle.placement_clauses.proofs.EachTest.{IsTest, IsSingle, kind-cases, single-outcome, test-sound}
use Rattle.placement_clauses.proofs.UptoLemmas.{All-upto}
use Rattle.placement_clauses.proofs.PlacedLemmas.{IsPlaced, Differ, holds-cell_class, holds-apart_class, holds-goto}
use Rattle.placement_clauses.proofs.TestLemmas.{holds-each, InRange}

-- the table of what the variables mean
pub record IsMeant (a : ℕ → Bool) (g : Graph) (place : List Position) : Type 0 where
  pub rows : (i k : ℕ) → i < length g.instrs → k < 32 → a (row_var i 0 + k) ≡ (row_at place i == k)
  pub cols : (i k : ℕ) → i < length g.instrs → k < 16 → a (col_var i 0 + k) ≡ (col_at place i == k)
  pub diffs : (i j : ℕ) → i < j → j < length g.instrs → a (differ_var (length g.instrs) i j) ≡ not (row_at place i == row_at place j)
  pub same_col : (s : ℕ) (x : Instr) → slice_get g.instrs s ≡ Some x → x.kind ≡ kind.Goto
      → a (way_var (length g.instrs) s 0) ≡ (col_at place s == col_at place (first_label x.targets))
  pub low : (s : ℕ) (x : Instr) → slice_get g.instrs s ≡ Some x → x.kind ≡ kind.Goto
      → a (way_var (length g.instrs) s 1)
      ≡ ((row_at place (first_label x.targets) == 0) && nat_lt (col_at place (first_label x.targets)) 15)
  pub same_row : (s : ℕ) (x : Instr) → slice_get g.instrs s ≡ Some x → x.kind ≡ kind.Goto
      → a (way_var (length g.instrs) s 2) ≡ (row_at place s == row_at place (first_label x.targets))

-- class 4 of a statement with one target
sound-single : (a : ℕ → Bool) (g : Graph) (place : List Position) (s : ℕ) (x : Instr) (from : Position) (j : JumpWord) (k : Kind)
    → IsSingle k → x.kind ≡ k → slice_get g.instrs s ≡ Some x → IsMeant a g place
    → OneTarget a (length g.instrs) place s from x.targets (first_label x.targets) → CanJump place k x.targets from j
    → AllHold a (flow_clauses (length g.instrs) s k x.targets)
unfolding flow_clauses
sound-single a g place s x from j kind.Goto is is_goto x_at meant w can =
    let m = first_label x.targets in
    holds-goto a (length g.instrs) (row_at place) (col_at place) s m (w.placed.rows s w.source) (w.placed.cols s w.source)
    (w.placed.rows m w.target) (w.placed.cols m w.target)
    (meant.same_col s x x_at is_goto) (meant.low s x x_at is_goto) (meant.same_row s x x_at is_goto)
    (goto-fits a (length g.instrs) place s from x.targets m j w can)
sound-single a g place s x from j kind.Strobe is is_strobe x_at meant w can =
    let m = first_label x.targets in
    let cell = strobe-fits place from x.targets m j w.first can in
    holds-at a m 0 15 (row_at place m) (col_at place m) (w.placed.rows m w.target) (w.placed.cols m w.target) cell.0 cell.1
sound-single a g place s x from j kind.Enable is is_enable x_at meant w can =
    let m = first_label x.targets in
    holds-enable a (length g.instrs) place s m w.placed w.source w.target
    (enable-fits a (length g.instrs) place s from x.targets m j w can)
sound-single a g place s x from j _ is is_k x_at meant w can = absurd is

-- class 4 and class 5 of an instruction
sound-instr : (a : ℕ → Bool) (g : Graph) (place : List Position) (s : ℕ) (x : Instr) (from : Position) → IsValid g → IsLegal g place
    → IsMeant a g place → IsPlaced a (length g.instrs) (row_at place) (col_at place)
    → slice_get g.instrs s ≡ Some x → slice_get place s ≡ Some from
    → AllHold a (flow_clauses (length g.instrs) s x.kind x.targets) × AllHold a (trap_clauses (length g.instrs) x.kind x.targets)
unfolding InRange
sound-instr a g place s x from valid legal meant p x_at from_at = by (kind-cases x.kind)
  where
    is : IsInstr (length g.instrs) x
    is = valid.each_instr s x x_at

    s_in : s < length g.instrs
    s_in = slice_get_within g.instrs s x x_at

    can : (j : JumpWord) × CanJump place x.kind x.targets from j
    can = can-from_has place x from (legal.each_has_jump s x from x_at from_at)

    same_rows : (x z : ℕ) → x < length g.instrs → z < length g.instrs → x ≢ z → a (pair_var (length g.instrs) x z) ≡ false
        → row_at place x ≡ row_at place z
    same_rows x z x_in z_in ne f = by (nat_lt x z) refl f
      where
        below : (z x : ℕ) → z ≤ x → (x ≡ z → ⊥) → z < x
        below z x le q = elim (cases_lt z x) as (λ _. z < x) [ inl l ↦ l | inr h ↦ absurd (q (omega arith)) ]

        by : (b : Bool) → nat_lt x z ≡ b → a (if b then differ_var (length g.instrs) x z else differ_var (length g.instrs) z x) ≡ false
            → row_at place x ≡ row_at place z
        by true e f = eqb-true (row_at place x) (row_at place z)
            (not-false (row_at place x == row_at place z) (sym (meant.diffs x z (ltb-true x z e) z_in) ∙ f))
        by false e f = sym (eqb-true (row_at place z) (row_at place x)
            (not-false (row_at place z == row_at place x) (sym (meant.diffs z x (below z x (ltb-false x z e) ne) x_in) ∙ f)))

    by : IsSingle x.kind ⊎ ((c : Code) × IsTest x.kind c)
        → AllHold a (flow_clauses (length g.instrs) s x.kind x.targets) × AllHold a (trap_clauses (length g.instrs) x.kind x.targets)
    by (inl single) =
        let one_long : length x.targets ≡ 1 = is.target_for_each_outcome ∙ single-outcome x.kind single in
        let first = first-target x.targets one_long is.some_label in (
          sound-single a g place s x from can.0 x.kind single refl x_at meant
              (record {
                placed = p;
                count = legal.cell_for_each_label;
                at = from_at;
                source = s_in;
                target = is.targets_in_range 0 (first_label x.targets) first;
                alone = only-target x.targets one_long is.some_label;
                first = first;
              }) can.1,
          holds-no_traps a (length g.instrs) x.kind x.targets (first_label x.targets) (only-target x.targets one_long is.some_label),
        )
    by (inr test) =
        test-sound a (length g.instrs)
        place s from x.kind test.0 x.targets can.0 test.1 p legal.cell_for_each_label legal.in_matrix same_rows from_at s_in
        is.target_for_each_outcome is.some_label is.targets_in_range can.1

-- every clause is true
pub legal-sound : (a : ℕ → Bool) (g : Graph) (place : List Position) → IsValid g → IsLegal g place → IsMeant a g place
    → AllHold a (clauses_of g)
unfolding clauses_of
legal-sound a g place valid legal meant =
    let P : List ℤ → Type 0 = λ c. clause_holds a c ≡ true in
    let n = length g.instrs in
    All-append P (cell_class n ++ apart_class n ++ given_class g ++ flow_class g) (trap_class g)
    (All-append P (cell_class n ++ apart_class n ++ given_class g) (flow_class g)
    (All-append P (cell_class n ++ apart_class n) (given_class g)
    (All-append P (cell_class n) (apart_class n) (holds-cell_class a n (row_at place) (col_at place) placed)
    (holds-apart_class a n (row_at place) (col_at place) placed differ))
    (All-append P (each_of g.pins pin_clauses ++ at_clauses g.start 0 0) (upto n (bound_clauses g.rows))
    (All-append P (each_of g.pins pin_clauses) (at_clauses g.start 0 0)
    (holds-each a g.pins pin_clauses
    (λ k p e. let q = legal.pins_kept k p e in let lt = valid.pins_in_range k p e in
    holds-at a p.label p.cell.row p.cell.col (row_at place p.label) (col_at place p.label) (placed.rows p.label lt)
    (placed.cols p.label lt) (row-of place p.label p.cell q) (col-of place p.label p.cell q)))
    (let lt = valid.start_in_range in
    holds-at a g.start 0 0 (row_at place g.start) (col_at place g.start) (placed.rows g.start lt) (placed.cols g.start lt)
    (row-of place g.start _ legal.start_at_origin) (col-of place g.start _ legal.start_at_origin)))
    (All-upto P n (bound_clauses g.rows)
    (λ i lt. let p = cell-at place n i legal.cell_for_each_label lt in
    holds-bound a g.rows i (row_at place i) (placed.rows i lt)
    (subst (λ r. r < g.rows) (sym (row-of place i p.0 p.1)) (legal.below_bound i p.0 p.1))))))
    (holds-each a g.instrs (instr_clauses n) (λ s x e. (both s x e).0)))
    (holds-each a g.instrs (instr_traps n) (λ s x e. (both s x e).1))
  where
    placed : IsPlaced a (length g.instrs) (row_at place) (col_at place)
    placed = record {
      rows = λ i lt. let p = cell-at place (length g.instrs) i legal.cell_for_each_label lt in
          record {
            within = subst (λ r. r < 32) (sym (row-of place i p.0 p.1)) (legal.in_matrix i p.0 p.1).row;
            above = omega arith;
            tells = λ k k_in. meant.rows i k lt k_in;
          };
      cols = λ i lt. let p = cell-at place (length g.instrs) i legal.cell_for_each_label lt in
          record {
            within = subst (λ r. r < 16) (sym (col-of place i p.0 p.1)) (legal.in_matrix i p.0 p.1).col;
            above = omega arith;
            tells = λ k k_in. meant.cols i k lt k_in;
          };
    }

    differ : (i j : ℕ) → i < j → j < length g.instrs → Differ a (length g.instrs) (row_at place) (col_at place) i j
    differ i j lt j_in =
        let i_in : i < length g.instrs = omega arith in
        let p = cell-at place (length g.instrs) i legal.cell_for_each_label i_in in
        let q = cell-at place (length g.instrs) j legal.cell_for_each_label j_in in
        record {
          rows = λ (t : a (differ_var (length g.instrs) i j) ≡ true) (e : row_at place i ≡ row_at place j). clash
              (row_at place i == row_at place j) (sym (meant.diffs i j lt j_in) ∙ t) (eq-eqb (row_at place i) (row_at place j) e);
          cols = λ (f : a (differ_var (length g.instrs) i j) ≡ false) (e : col_at place i ≡ col_at place j).
              let same_row : row_at place i ≡ row_at place j =
              eqb-true (row_at place i) (row_at place j)
              (not-false (row_at place i == row_at place j) (sym (meant.diffs i j lt j_in) ∙ f)) in
              let same : p.0 ≡ q.0 =
              same_cell p.0 q.0 (sym (row-of place i p.0 p.1) ∙ same_row ∙ row-of place j q.0 q.1)
              (sym (col-of place i p.0 p.1) ∙ e ∙ col-of place j q.0 q.1) in
              let one_label : i ≡ j = legal.cells_differ i j q.0 (p.1 ∙ ap Some same) q.1 in
              absurd (omega arith);
        }
      where
        clash : (b : Bool) → not b ≡ true → b ≡ true → ⊥
        clash true e f = cc
        clash false e f = cc

    both : (s : ℕ) (x : Instr) → slice_get g.instrs s ≡ Some x
        → AllHold a (flow_clauses (length g.instrs) s x.kind x.targets) × AllHold a (trap_clauses (length g.instrs) x.kind x.targets)
    both s x e =
        let from = cell-at place (length g.instrs) s legal.cell_for_each_label (slice_get_within g.instrs s x e) in
        sound-instr a g place s x from.0 valid legal meant placed e from.1
