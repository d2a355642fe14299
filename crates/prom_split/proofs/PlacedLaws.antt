-- The words of a legal placement: they hold its program, and there is one list of them.
use Rattle.std.proofs.Common.{ℕ, zero, suc, ◌+◌, ◌*◌, ◌/◌, ◌%◌, ◌<◌, ◌≡◌, ◌≢◌, ◌⊎◌, inl, inr, sym, ap, ap₂, subst, ◌∙◌, arith, List, [], ◌∷◌, length, get_or, Some, None, slice_get}
use Rattle.std.proofs.lemmas.Grind.{same_number_lists}
use Rattle.std.proofs.lemmas.Option.{slice_get_within}
use Rattle.mcu_jumps.specs.Position.{Position, IsCell}
use Rattle.mcu_jumps.specs.JumpWord.{JumpWord, ac_of}
use Rattle.flow_graph.specs.declared.instructions.Instr.{Instr}
use Rattle.flow_graph.specs.Graph.{Graph}
use Rattle.place_model.specs.Cells.{IsAt}
use Rattle.place_model.specs.Legal.{IsLegal, IsJumpOf}
use Rattle.prom_split.specs.Codes.{jump_at}
use Rattle.prom_split.specs.Microword.{AreWords, HoldsProgram, IsWordOf, word_with}
use Rattle.prom_split.proofs.CodesBack.{jump_back}
use Rattle.prom_split.proofs.ListSteps.{element_at, some_back}
use Rattle.prom_split.proofs.PlacedSteps.{cell_at}

pub words_hold : (g : Graph) (place : List Position) (words : List ℕ) → IsLegal g place → AreWords g place words
    → HoldsProgram g place words
words_hold g place words legal w = record {
  count = w.count;
  labels = λ label instr cell here at. let r = (w.each cell (legal.in_matrix label cell at)).label label instr here at in
      (r.0, r.1.meets, r.2);
  free = λ cell c at. (w.each cell c).free at;
}

number_or : (a b : ℕ) → (a ≡ b) ⊎ (a ≢ b)
number_or a b = grind arith

cell_or : (a b : Position) → (a ≡ b) ⊎ (a ≢ b)
cell_or a b = go (number_or a.row b.row) (number_or a.col b.col)
  where
    go : (a.row ≡ b.row) ⊎ (a.row ≢ b.row) → (a.col ≡ b.col) ⊎ (a.col ≢ b.col) → (a ≡ b) ⊎ (a ≢ b)
    go (inl p) (inl q) = inl (ap₂ cell_at p q)
    go (inr p) _ = inr (λ e. p (ap (λ (x : Position). x.row) e))
    go (inl p) (inr q) = inr (λ e. q (ap (λ (x : Position). x.col) e))

not_before : (c cell : Position) (cs : List Position) → c ≢ cell → IsAt cs None cell → IsAt (c ∷ cs) None cell
not_before c cell cs n free zero e = n (some_back c cell e)
not_before c cell cs n free (suc i) e = free i e

-- a cell is a label's, or no label's
pub at_label : (place : List Position) (cell : Position) → ((i : ℕ) × (slice_get place i ≡ Some cell)) ⊎ IsAt place None cell
at_label [] cell = inr (λ i e. cc e)
at_label (c ∷ cs) cell = go (cell_or c cell) (at_label cs cell)
  where
    go : (c ≡ cell) ⊎ (c ≢ cell) → ((i : ℕ) × (slice_get cs i ≡ Some cell)) ⊎ IsAt cs None cell
        → ((i : ℕ) × (slice_get (c ∷ cs) i ≡ Some cell)) ⊎ IsAt (c ∷ cs) None cell
    go (inl e) _ = inl (0, ap Some e)
    go (inr n) (inl r) = inl (suc r.0, r.1)
    go (inr n) (inr free) = inr (not_before c cell cs n free)

-- two least jumps are one
one_jump : (place : List Position) (instr : Instr) (from : Position) (a b : JumpWord) → IsJumpOf place instr from a
    → IsJumpOf place instr from b → a ≡ b
one_jump place instr from a b p q =
    let ac : ac_of a ≡ ac_of b = omega (arith, p.least b q.meets, q.least a p.meets) in
    sym (jump_back a p.meets.in_range) ∙ ap jump_at ac ∙ jump_back b q.meets.in_range

one_word : (g : Graph) (place : List Position) (cell : Position) (v w : ℕ) → IsLegal g place → IsWordOf g place cell v
    → IsWordOf g place cell w → v ≡ w
one_word g place cell v w legal p q = go (at_label place cell)
  where
    go : ((i : ℕ) × (slice_get place i ≡ Some cell)) ⊎ IsAt place None cell → v ≡ w
    go (inr free) = p.free free ∙ sym (q.free free)
    go (inl at) =
        let within : at.0 < length g.instrs =
        subst (λ (n : ℕ). at.0 < n) legal.cell_for_each_label (slice_get_within place at.0 cell at.1) in
        let here = element_at g.instrs at.0 within in
        let a = p.label at.0 here.0 here.1 at.1 in
        let b = q.label at.0 here.0 here.1 at.1 in
        a.2 ∙ ap (word_with g.decl (Some here.0)) (one_jump place here.0 cell a.0 b.0 a.1 b.1) ∙ sym b.2

pub one_list : (g : Graph) (place : List Position) (words others : List ℕ) → IsLegal g place → AreWords g place words
    → AreWords g place others → words ≡ others
one_list g place words others legal p q = same_number_lists words others (p.count ∙ sym q.count) each
  where
    each : (i : ℕ) → i < length words → get_or words i 0 ≡ get_or others i 0
    each i lt =
        let small : i < 512 = omega (arith, p.count) in
        let inside : IsCell (cell_at (i / 16) (i % 16)) = record { row = omega arith; col = omega arith } in
        let at : 16 * (i / 16) + i % 16 ≡ i = omega arith in
        let both : get_or words (16 * (i / 16) + i % 16) 0 ≡ get_or others (16 * (i / 16) + i % 16) 0 =
        one_word g place (cell_at (i / 16) (i % 16)) (get_or words (16 * (i / 16) + i % 16) 0) (get_or others (16 * (i / 16) + i % 16) 0)
        legal (p.each (cell_at (i / 16) (i % 16)) inside) (q.each (cell_at (i / 16) (i % 16)) inside) in
        subst (λ (k : ℕ). get_or words k 0 ≡ get_or others k 0) at both
