-- The placement of a case is legal: each label at the cell of its number.
use Rattle.std.proofs.Common.{◌≡◌, ℕ, zero, suc, ◌+◌, ◌*◌, ◌/◌, ◌%◌, ◌<◌, List, [], ◌∷◌, length, Option, Some, refl, sym, ap, subst, ◌∙◌, arith}
use Rattle.std.specs.Prelude.{map, slice_get, option_map}
use Rattle.std.specs.List.{AllByRecursion}
use Rattle.std.proofs.lemmas.List.{length-map}
use Rattle.std.proofs.lemmas.Option.{slice_get-map, slice_get_within}
use Rattle.mcu_jumps.specs.Position.{Position}
use Rattle.mcu_jumps.specs.NextAddress.{lands}
use Rattle.mcu_jumps.specs.declared.codes.Code.TheVariants.{Jcc, Jcr, Jfl}
use Rattle.flow_graph.specs.declared.instructions.Instr.{Instr}
use Rattle.flow_graph.specs.declared.pinning.Pin.{Pin}
use Rattle.place_model.specs.Cells.{IsAt}
use Rattle.place_model.specs.Legal.{HasJump, IsLegal, KeepsPins}
use Rattle.micro_asm.proofs.LabelLemmas.{from_map}
use Rattle.gen_case.specs.declared.choices.Choice.{Choice}
use Rattle.gen_case.specs.declared.choices.Operation.{Operation}
use Rattle.gen_case.specs.declared.choices.Flow.{Flow}
use Rattle.gen_case.specs.declared.choices.Flow.TheVariants.{SameRow, SameColumn, OnFlag}
use Rattle.gen_case.specs.CaseProgram.{case_graph, case_place, case_pin, case_instr, instr_for}
use Rattle.gen_case.specs.Choices.{IsFlow, choice_of}
use Rattle.gen_case.specs.Labels.{labels, pinned_labels, cell_of}
use Rattle.gen_case.proofs.CaseLists.{IsLabel, all_pinned, labels_count, label_at}
use Rattle.gen_case.proofs.SourceAccepted.{choice_in_range}

-- ---- cells

-- a cell of a row and a column
abbrev cell : ℕ → ℕ → Position
cell row col = record { row = row; col = col }

-- a label's cell in the placement
placed_at : (label : ℕ) → label < 128 → slice_get case_place label ≡ Some (cell_of label)
unfolding case_place
placed_at label small = slice_get-map cell_of labels label ∙ ap (option_map cell_of) (label_at label small)

-- a label that has a cell is one of the case, and the cell is that of its number
record IsPlaced (label : ℕ) (at : Position) : Type 0 where
  small : label < 128
  is : at ≡ cell_of label

-- a cell that is there is that one
same_cell : (a b : Position) → (let some : Option Position = Some a in some ≡ Some b) → a ≡ b
same_cell a b e = cc

-- what has a cell in the placement is such a label
is_placed : (label : ℕ) (at : Position) → slice_get case_place label ≡ Some at → IsPlaced label at
unfolding case_place
is_placed label at e =
    let within : label < length (map cell_of labels) = slice_get_within (map cell_of labels) label at e in
    let small : label < 128 = omega (arith, within, length-map labels cell_of, labels_count) in
    record { small = small; is = same_cell at (cell_of label) (sym e ∙ placed_at label small) }

-- labels of one cell are one
apart : (a b : ℕ) → cell_of a ≡ cell_of b → a ≡ b
apart a b e =
    let row : a / 16 ≡ b / 16 = ap (λ (p : Position). p.row) e in
    let col : a % 16 ≡ b % 16 = ap (λ (p : Position). p.col) e in
    omega (arith, row, col)

-- ---- jumps

-- a landing on the cell of a label
landed : (label row col : ℕ) → label < 128 → label / 16 ≡ row → label % 16 ≡ col → IsAt case_place (Some label) (cell row col)
landed label row col small r c =
    placed_at label small ∙ ap (λ (k : ℕ). Some (cell k (label % 16))) r ∙ ap (λ (k : ℕ). Some (cell row k)) c

-- the first target of a list
first_is : (outcome : ℕ) (target : Option ℕ) (t : ℕ) → slice_get (Some t ∷ []) outcome ≡ Some target → (outcome ≡ 0) × (Some t ≡ target)
first_is zero target t e = (refl, cc)
first_is (suc outcome) target t e = absurd cc

-- where a test of the flag leads
on_flag : (label row outcome : ℕ) (target : Option ℕ) → label < 128 → row < 8
    → slice_get (Some (16 * row + 8 * (label / 8 % 2) + 2) ∷ Some (16 * row + 8 * (label / 8 % 2) + 3) ∷ []) outcome ≡ Some target
    → IsAt case_place target (lands (cell_of label) (record { code = Jfl; operand = row }) outcome)
on_flag label row zero target small range e =
    let first : Some (16 * row + 8 * (label / 8 % 2) + 2) ≡ target = cc in
    subst (λ (t : Option ℕ). IsAt case_place t (lands (cell_of label) (record { code = Jfl; operand = row }) 0)) first
    (landed (16 * row + 8 * (label / 8 % 2) + 2) (16 * (label / 16 / 16) + row) (8 * (label % 16 / 8) + 2 + 0) (omega arith) (omega arith)
    (omega arith))
on_flag label row (suc zero) target small range e =
    let second : Some (16 * row + 8 * (label / 8 % 2) + 3) ≡ target = cc in
    subst (λ (t : Option ℕ). IsAt case_place t (lands (cell_of label) (record { code = Jfl; operand = row }) 1)) second
    (landed (16 * row + 8 * (label / 8 % 2) + 3) (16 * (label / 16 / 16) + row) (8 * (label % 16 / 8) + 2 + 1) (omega arith) (omega arith)
    (omega arith))
on_flag label row (suc (suc outcome)) target small range e = absurd cc

-- the jump of each flow statement: in its row, in its column, or by the flag
has_jump : (label : ℕ) (operation : Operation) (register value : ℕ) (flow : Flow) → label < 128 → IsFlow flow
    → HasJump case_place (instr_for label (record { operation = operation; register = register; value = value; flow = flow }))
    (cell_of label)
has_jump label operation register value (SameRow col) small range = (
  record { code = Jcr; operand = col },
  record {
    in_range = range;
    admitted = tt;
    landings = λ outcome target e.
        let one = first_is outcome target (16 * (label / 16) + col) e in
        subst (λ (t : Option ℕ). IsAt case_place t (cell (label / 16) col)) one.1
        (landed (16 * (label / 16) + col) (label / 16) col (omega arith) (omega arith) (omega arith));
  },
)
has_jump label operation register value (SameColumn row) small range = (
  record { code = Jcc; operand = row },
  record {
    in_range = omega arith;
    admitted = tt;
    landings = λ outcome target e.
        let one = first_is outcome target (16 * row + label % 16) e in
        subst (λ (t : Option ℕ). IsAt case_place t (cell row (label % 16))) one.1
        (landed (16 * row + label % 16) row (label % 16) (omega arith) (omega arith) (omega arith));
  },
)
has_jump label operation register value (OnFlag row) small range = (
  record { code = Jfl; operand = row },
  record { in_range = omega arith; admitted = refl; landings = λ outcome target e. on_flag label row outcome target small range e },
)

-- ---- the placement

-- each instruction of the case has a jump
case_jump : (number label : ℕ) (instr : Instr) (from : Position) → slice_get (map (case_instr number) labels) label ≡ Some instr
    → slice_get case_place label ≡ Some from → HasJump case_place instr from
case_jump number label instr from at_label at_cell =
    let placed = is_placed label from at_cell in
    let choice : Choice = choice_of number label in
    let range = choice_in_range number label in
    let found : slice_get (map (case_instr number) labels) label ≡ Some (case_instr number label) =
    slice_get-map (case_instr number) labels label ∙ ap (option_map (case_instr number)) (label_at label placed.small) in
    let same : case_instr number label ≡ instr = same_instr (case_instr number label) instr (sym found ∙ at_label) in
    subst (λ (i : Instr). HasJump case_place i from) same
    (subst (λ (p : Position). HasJump case_place (case_instr number label) p) (sym placed.is)
    (has_jump label choice.operation choice.register choice.value choice.flow placed.small range.flow))
  where
    same_instr : (a b : Instr) → (let some : Option Instr = Some a in some ≡ Some b) → a ≡ b
    same_instr a b e = cc

-- what stands in a list with a fact for each has the fact
each_at : (P : ℕ → Type 0) (xs : List ℕ) (k x : ℕ) → AllByRecursion P xs → slice_get xs k ≡ Some x → P x
each_at P [] k x all e = absurd cc
each_at P (y ∷ xs) zero x all e = let same : y ≡ x = cc in subst (λ (z : ℕ). P z) same all.0
each_at P (y ∷ xs) (suc k) x all e = each_at P xs k x all.1 e

-- each pinned label has its cell
pins_kept : KeepsPins (map case_pin pinned_labels) case_place
pins_kept k pin e =
    let from = from_map case_pin pinned_labels k pin e in
    subst (λ (p : Pin). slice_get case_place p.label ≡ Some p.cell) from.2
    (placed_at from.0 (each_at IsLabel pinned_labels k from.0 all_pinned from.1))

-- as many cells as instructions
as_many : (number : ℕ) → length case_place ≡ length (map (case_instr number) labels)
unfolding case_place
as_many number = length-map labels cell_of ∙ sym (length-map labels (case_instr number))

-- a label's cell is one of the matrix, in the first eight rows
within_matrix : (label : ℕ) (at : Position) → IsPlaced label at → (at.row < 8) × (at.col < 16)
within_matrix label at placed =
    let row : at.row ≡ label / 16 = ap (λ (p : Position). p.row) placed.is in
    let col : at.col ≡ label % 16 = ap (λ (p : Position). p.col) placed.is in
    (omega (arith, row, placed.small), omega (arith, col))

-- the placement of a case is legal
pub case_is_legal : (number : ℕ) → IsLegal (case_graph number) case_place
unfolding case_graph
case_is_legal number = record {
  cell_for_each_label = as_many number;
  in_matrix = λ label at e. let within = within_matrix label at (is_placed label at e) in
      record { row = omega (arith, within.0); col = within.1 };
  cells_differ = λ i j at at_i at_j. apart i j (sym (is_placed i at at_i).is ∙ (is_placed j at at_j).is);
  pins_kept = pins_kept;
  start_at_origin = placed_at 0 (omega arith);
  below_bound = λ label at e. let within = within_matrix label at (is_placed label at e) in omega (arith, within.0);
  each_has_jump = case_jump number;
}
