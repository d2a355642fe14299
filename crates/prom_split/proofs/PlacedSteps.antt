-- The words of the cells, one cell at a time.
use Rattle.std.proofs.Common.{ℕ, ◌+◌, ◌^◌, ◌<◌, ◌≡◌, sym, ap, ap₂, subst, ◌∙◌, arith, List, [], ◌∷◌, ◌++◌, length, Some, slice_get, inl, inr}
use Rattle.std.specs.List.{All}
use Rattle.std.proofs.lemmas.Bool.{cases_lt}
use Rattle.std.proofs.lemmas.List.Elements.{All-push}
use Rattle.mcu_jumps.specs.Position.{Position, IsCell, address_of}
use Rattle.mcu_jumps.specs.JumpWord.{JumpWord}
use Rattle.flow_graph.specs.declared.instructions.Instr.{Instr}
use Rattle.flow_graph.specs.Graph.{Graph}
use Rattle.place_model.specs.Legal.{IsLegal, IsJumpOf}
use Rattle.prom_split.specs.Parts.{width_of}
use Rattle.prom_split.specs.Microword.{IsWordOf, IsInstrWord, word_at, word_with}
use Rattle.prom_split.proofs.ListSteps.{length_push, number_before, number_last, some_back}

-- the word at a label's cell
pub word_of_label : (g : Graph) (place : List Position) (label : ℕ) (instr : Instr) (cell : Position) (jump : JumpWord) (word : ℕ)
    → IsLegal g place → slice_get g.instrs label ≡ Some instr → slice_get place label ≡ Some cell
    → IsJumpOf place instr cell jump → word ≡ word_with g.decl (Some instr) jump → IsWordOf g place cell word
word_of_label g place label instr cell jump word legal here at is e = record { label = one; free = λ free. absurd (free label at) }
  where
    one : (other : ℕ) (x : Instr) → slice_get g.instrs other ≡ Some x → slice_get place other ≡ Some cell
        → IsInstrWord g place x cell word
    one other x there cell_there =
        let same : other ≡ label = legal.cells_differ other label cell cell_there at in
        let instrs : instr ≡ x = some_back instr x (sym here ∙ ap (slice_get g.instrs) (sym same) ∙ there) in
        subst (λ (y : Instr). IsInstrWord g place y cell word) instrs (jump, is, e)

abbrev pub cell_at : ℕ → ℕ → Position
cell_at row col = record { row = row; col = col }

-- cells of one address are one
pub same_cell : (a b : Position) → IsCell a → IsCell b → address_of a ≡ address_of b → a ≡ b
same_cell a b here there e = ap₂ cell_at (omega (arith, here.col, there.col)) (omega (arith, here.col, there.col))

-- the words of the first cells, as many as count
pub record Placed (g : Graph) (place : List Position) (count : ℕ) (words : List ℕ) : Type 0 where
  pub many : length words ≡ count
  pub fit : All (λ word. word < 2 ^ width_of g.decl) words
  pub each : (cell : Position) → IsCell cell → address_of cell < count → IsWordOf g place cell (word_at words cell)

-- the word of one more cell
pub placed_push : (g : Graph) (place : List Position) (count : ℕ) (words : List ℕ) (cell : Position) (word : ℕ)
    → Placed g place count words → IsCell cell → address_of cell ≡ count → IsWordOf g place cell word → word < 2 ^ width_of g.decl
    → Placed g place (count + 1) (words ++ word ∷ [])
placed_push g place count words cell word p in_matrix here is below = record {
  many = omega (arith, length_push words word, p.many);
  fit = All-push (λ x. x < 2 ^ width_of g.decl) words word p.fit below;
  each = λ other within lt. elim (cases_lt (address_of other) count) [
    | inl before ↦
        subst (λ (x : ℕ). IsWordOf g place other x) (sym (number_before words word (address_of other) (omega (arith, p.many))))
        (p.each other within before)
    | inr after ↦
        (let address : address_of cell ≡ address_of other = omega arith in
        let same : cell ≡ other = same_cell cell other in_matrix within address in
        let last : word_at (words ++ word ∷ []) other ≡ word = number_last words word (address_of other) (omega (arith, p.many)) in
        subst (λ (x : ℕ). IsWordOf g place other x) (sym last) (subst (λ (c : Position). IsWordOf g place c word) same is))
  ];
}
