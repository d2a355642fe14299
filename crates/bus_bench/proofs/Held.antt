-- No word of words that hold a program has a bad shift.
use Rattle.std.proofs.Common.{◌≡◌, ℕ, ◌<◌, ◌⊎◌, inl, inr, IsTrue, List, length, Some, None, ap, subst, ◌∙◌}
use Rattle.std.specs.Prelude.{slice_get}
use Rattle.std.proofs.lemmas.Option.{slice_get_within}
use Rattle.mcu_jumps.specs.Position.{Position}
use Rattle.mcu_jumps.specs.JumpWord.{JumpWord, IsJump}
use Rattle.cpe_slice.specs.FunctionCode.{is_shift}
use Rattle.field_decl.specs.Declaration.{Declaration}
use Rattle.field_decl.specs.KBits.{gathered_bits}
use Rattle.flow_graph.specs.Graph.{Graph}
use Rattle.flow_graph.specs.Order.{Order, order_of, values_of}
use Rattle.place_model.specs.Cells.{IsAt}
use Rattle.place_model.specs.Legal.{IsLegal}
use Rattle.prom_split.specs.Parts.{word_by, parts_of}
use Rattle.prom_split.specs.Microword.{share_in, parts_with, free_jump, word_at, HoldsProgram, HasNoBadShift}
use Rattle.prom_split.proofs.ListSteps.{element_at}
use Rattle.prom_split.proofs.PlacedLaws.{at_label}
use Rattle.prom_split.proofs.WordSum.{gathered_zero}
use Rattle.bus_bench.specs.Law.{IsGraph}
use Rattle.bus_bench.proofs.Orders.{IsHeld, read_back, instr_held, free_held}

-- a word that was made of such an order has no bad shift
read_shift : (decl : Declaration) (order : Order) (values : List ℕ) (jump : JumpWord) (word : ℕ) → IsHeld decl order values → IsJump jump
    → word ≡ word_by decl (parts_with decl order values jump)
    → IsTrue (is_shift (parts_of decl word).func) → (parts_of decl word).kbits ≡ 0
read_shift decl order values jump word h in_range made =
    rw (ap (parts_of decl) made ∙ read_back decl order values jump h in_range)
    (λ s. ap (gathered_bits (share_in decl) decl.kbus) (h.shift s) ∙ gathered_zero (share_in decl) decl.kbus)

pub no_bad_shift : (g : Graph) (place : List Position) (words : List ℕ) → IsGraph g → IsLegal g place → HoldsProgram g place words
    → HasNoBadShift words g.decl
no_bad_shift g place words graph legal holds cell in_matrix = go (at_label place cell)
  where
    go : ((i : ℕ) × (slice_get place i ≡ Some cell)) ⊎ IsAt place None cell
        → IsTrue (is_shift (parts_of g.decl (word_at words cell)).func) → (parts_of g.decl (word_at words cell)).kbits ≡ 0
    go (inl at) =
        let within : at.0 < length g.instrs =
        subst (λ (n : ℕ). at.0 < n) legal.cell_for_each_label (slice_get_within place at.0 cell at.1) in
        let here = element_at g.instrs at.0 within in
        let held = instr_held g.decl here.0 (graph.microwords.each at.0 here.0 here.1) in
        let w = holds.labels at.0 here.0 cell here.1 at.1 in
        read_shift g.decl (order_of g.decl (Some here.0)) (values_of g.decl (Some here.0)) w.0 (word_at words cell) held w.1.in_range w.2
    go (inr free) =
        read_shift g.decl (order_of g.decl None) (values_of g.decl None) (free_jump cell) (word_at words cell)
        (free_held g.decl graph.declares) in_matrix.row (holds.free cell in_matrix free)
