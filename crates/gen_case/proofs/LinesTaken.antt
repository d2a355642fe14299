-- The lines of a case's source are taken one after the other.
use Rattle.std.proofs.Common.{◌≡◌, ℕ, zero, suc, ◌+◌, ◌/◌, ◌%◌, ◌≤◌, ◌<◌, false, ◌||◌, List, [], ◌∷◌, ◌++◌, length, Option, Some, None, Result, Ok, refl, sym, ap, ◌∙◌, append_assoc, arith, inl, inr}
use Rattle.std.specs.Prelude.{codes, map}
use Rattle.std.specs.List.{range_with_len, filter}
use Rattle.std.specs.Str.{bytes_eq}
use Rattle.std.proofs.lemmas.Bool.{cases_Bool, le-ltb, lt-leb, or_from}
use Rattle.std.proofs.lemmas.List.{append-nil, length-append}
use Rattle.std.proofs.lemmas.List.Folds.{list_any-append}
use Rattle.field_decl.specs.declared.directive.Directive.TheVariants as directives
use Rattle.field_decl.specs.declared.fault.AsmKind.{AsmKind}
use Rattle.field_decl.specs.declared.word.Word.{Word}
use Rattle.field_decl.specs.Directives.{directive_form}
use Rattle.field_decl.specs.Judging.{refusal}
use Rattle.field_decl.specs.LineByLine.{lines_taken}
use Rattle.field_decl.specs.Results.{◌>>=◌, in_line}
use Rattle.micro_asm.specs.declared.accepted_lines.StartLine.{StartLine}
use Rattle.micro_asm.specs.declared.accepted_lines.PinLine.{PinLine}
use Rattle.micro_asm.specs.declared.accepted_lines.NamedInstr.{NamedInstr}
use Rattle.micro_asm.specs.declared.source_line.SourceLine.{SourceLine}
use Rattle.micro_asm.specs.declared.source_line.SourceLine.TheVariants as source_lines
use Rattle.micro_asm.specs.declared.source_line.SourceLine.TheVariants.{Pin, Instruct}
use Rattle.micro_asm.specs.Earlier as earlier
use Rattle.micro_asm.specs.Earlier.{Line, Facts, facts_of, with_line, has_label}
use Rattle.micro_asm.specs.Judging.{judged, taken, instructs}
use Rattle.micro_asm.specs.SourceLines.{source_line_form, named_form}
use Rattle.micro_asm.specs.SourceSteps.{after_source_line, after_line, after_lines}
use Rattle.text_pieces.specs.Pieces.{Piece, pieces_text, words_in, AreReadable}
use Rattle.text_pieces.proofs.PieceTexts.{source_words}
use Rattle.gen_case.specs.declared.choices.Choice.{Choice}
use Rattle.gen_case.specs.Choices.{IsChoice}
use Rattle.gen_case.specs.Labels.{label_name, is_pinned, cell_of}
use Rattle.gen_case.specs.SourceText.{slices_line, kbus_line, field_line, start_line, header_lines, pin_line, instruction_line}
use Rattle.gen_case.proofs.CaseNames.{tested_name, label_is_name, other_name}
use Rattle.gen_case.proofs.InstrReads.{declared_case, named_for, instr_reads}
use Rattle.gen_case.proofs.LineForms.{pin_readable, pin_form, instruction_readable, instruction_form, written_for}

-- ---- one line

-- a line that is read and not refused adds what it says
line_adds : (facts : Facts) (number : ℕ) (line : List Piece) (rest : List (List ℕ)) (says : SourceLine) (read : Line) → AreReadable line
    → source_line_form (words_in line) ≡ Ok says → judged facts number says ≡ Ok read
    → after_lines facts number (pieces_text line ∷ rest) ≡ after_lines (with_line facts read) (number + 1) rest
unfolding lines_taken after_line
line_adds facts number line rest says read readable form accepted =
    let added : after_line facts number (pieces_text line) ≡ Ok (with_line facts read) =
    ap (λ (r : Result (List Word) AsmKind). r >>= source_line_form >>= after_source_line facts number) (source_words line readable)
    ∙ ap (λ (r : Result SourceLine AsmKind). r >>= after_source_line facts number) form
    ∙ ap (taken facts) accepted in
    ap (λ (r : Result Facts AsmKind). in_line number r >>= λ more. after_lines more (number + 1) rest) added

-- ---- the declarations

-- the start of a case
abbrev pub case_start : StartLine
case_start = record { line = 4; label = label_name 0 }

-- what a case's lines say: its declarations, some pins, some instructions
abbrev pub case_facts : List PinLine → List NamedInstr → Facts
case_facts pins instrs = record { declared = declared_case; rows = None; start = Some case_start; pins = pins; instrs = instrs }

-- what the first lines declare, before the start
abbrev declares : Option ℕ → Option ℕ → Facts
declares slices kbus =
    record {
      declared = record { slices = slices; kbus = kbus; fields = []; prom = None; write = None };
      rows = None;
      start = None;
      pins = [];
      instrs = [];
    }

-- the declarations are taken
pub header_taken : (rest : List (List ℕ))
    → after_lines (facts_of []) 1 (map pieces_text header_lines ++ rest) ≡ after_lines (case_facts [] []) 5 rest
unfolding named_form directive_form judged refusal
header_taken rest =
    let after_slices : List (List ℕ) = pieces_text kbus_line ∷ pieces_text field_line ∷ pieces_text start_line ∷ rest in
    line_adds (facts_of []) 1 slices_line after_slices (source_lines.Declares (directives.Slices 8))
    (earlier.Declares (directives.Slices 8))
    (tested_name (codes "slices") refl refl refl refl, refl, (omega arith, refl, tt)) refl refl
    ∙ line_adds (declares (Some 8) None) 2 kbus_line (pieces_text field_line ∷ pieces_text start_line ∷ rest)
    (source_lines.Declares (directives.KBus 2)) (earlier.Declares (directives.KBus 2))
    (tested_name (codes "kbus") refl refl refl refl, refl, (omega arith, refl, tt)) refl refl
    ∙ line_adds (declares (Some 8) (Some 2)) 3 field_line (pieces_text start_line ∷ rest)
    (source_lines.Declares (directives.Field (codes "u") 4 0)) (earlier.Declares (directives.Field (codes "u") 4 0)) (
      tested_name (codes "field") refl refl refl refl,
      refl,
      (tested_name (codes "u") refl refl refl refl, refl, (omega arith, refl, (omega arith, refl, tt))),
    ) refl refl
    ∙ line_adds (record { declared = declared_case; rows = None; start = None; pins = []; instrs = [] }) 4 start_line rest
    (source_lines.Start (label_name 0)) (earlier.Starts case_start)
    (tested_name (codes "start") refl refl refl refl, refl, (label_is_name 0 (omega arith), refl, tt)) refl refl

-- ---- the pins

-- a pin of a label, in the line of a number
abbrev pub pin_in : ℕ → ℕ → PinLine
pin_in number label = record { line = number; label = label_name label; cell = cell_of label }

-- the pins of labels, of which the first is in the line of a number
abbrev pub pins_in : ℕ → List ℕ → List PinLine
pins_in number [] = []
pins_in number (label ∷ labels) = pin_in number label ∷ pins_in (number + 1) labels

-- no pin names a label from this one on
abbrev NoPinFrom : List PinLine → ℕ → Type 0
NoPinFrom pins first = (label : ℕ) → first ≤ label → label < 128 → earlier.is_pinned pins (label_name label) ≡ false

-- a pin's line
pin_taken : (pins : List PinLine) (number label : ℕ) (rest : List (List ℕ)) → label < 128
    → earlier.is_pinned pins (label_name label) ≡ false
    → after_lines (case_facts pins []) number (pieces_text (pin_line label) ∷ rest) ≡ after_lines
    (case_facts (pins ++ pin_in number label ∷ []) []) (number + 1) rest
unfolding judged
pin_taken pins number label rest small new =
    line_adds (case_facts pins []) number (pin_line label) rest (Pin (label_name label) (label / 16) (label % 16))
    (earlier.Pins (pin_in number label)) (pin_readable label small) (pin_form label)
    (rw (le-ltb 31 (label / 16) (omega arith), le-ltb 15 (label % 16) (omega arith), new) refl)

-- a pin more names no further label
pin_new : (pins : List PinLine) (number first : ℕ) → first < 128 → NoPinFrom pins first
    → NoPinFrom (pins ++ pin_in number first ∷ []) (first + 1)
pin_new pins number first small none = λ label from is_label.
    list_any-append (λ (pin : PinLine). bytes_eq (label_name label) pin.label) pins (pin_in number first ∷ [])
    ∙ or_from (earlier.is_pinned pins (label_name label)) (bytes_eq (label_name label) (label_name first) || false)
    (none label (omega arith) is_label)
    (or_from (bytes_eq (label_name label) (label_name first)) false (other_name label first is_label small (omega arith)) refl)

-- an element between two lists
abbrev grouped : {X : Type 0} (xs : List X) (y : X) (ys : List X) → (xs ++ y ∷ []) ++ ys ≡ xs ++ y ∷ ys
grouped xs y ys = append_assoc xs (y ∷ []) ys

-- the pins of the pinned labels among some that follow each other
pub pins_taken : (pins : List PinLine) (number first count : ℕ) (rest : List (List ℕ)) → first + count ≤ 128 → NoPinFrom pins first
    → after_lines (case_facts pins []) number (map pieces_text (map pin_line (filter is_pinned (range_with_len first count))) ++ rest)
    ≡ after_lines (case_facts (pins ++ pins_in number (filter is_pinned (range_with_len first count))) [])
    (number + length (filter is_pinned (range_with_len first count))) rest
pins_taken pins number first zero rest fits none =
    ap (λ (ps : List PinLine). after_lines (case_facts ps []) number rest) (sym (append-nil pins))
    ∙ ap (λ (k : ℕ). after_lines (case_facts (pins ++ []) []) k rest) (omega arith)
pins_taken pins number first (suc count) rest fits none = elim (cases_Bool (is_pinned first)) [
  | inl pinned ↦
      let others : List ℕ = filter is_pinned (range_with_len (first + 1) count) in
      rw pinned (
      pin_taken pins number first (map pieces_text (map pin_line others) ++ rest) (omega arith) (none first (omega arith) (omega arith))
      ∙ pins_taken (pins ++ pin_in number first ∷ []) (number + 1) (first + 1) count rest (omega arith)
      (pin_new pins number first (omega arith) none)
      ∙ ap (λ (ps : List PinLine). after_lines (case_facts ps []) (number + 1 + length others) rest)
      (grouped pins (pin_in number first) (pins_in (number + 1) others))
      ∙ ap (λ (k : ℕ). after_lines (case_facts (pins ++ pin_in number first ∷ pins_in (number + 1) others) []) k rest) (omega arith))
  | inr free ↦ rw free
      (pins_taken pins number (first + 1) count rest (omega arith) (λ label from is_label. none label (omega arith) is_label))
]

-- ---- the instructions

-- the instructions of labels that follow each other, with a choice for each, of which the first is in the line of a
-- number
abbrev pub instrs_in : (ℕ → Choice) → ℕ → List ℕ → List NamedInstr
instrs_in chosen offset labels = map (λ label. named_for (offset + label) label (chosen label)) labels

-- no instruction has a label from this one on
abbrev NoLabelFrom : List NamedInstr → ℕ → Type 0
NoLabelFrom instrs first = (label : ℕ) → first ≤ label → label < 128 → has_label instrs (label_name label) ≡ false

-- an instruction's line
instr_taken : (pins : List PinLine) (instrs : List NamedInstr) (number label : ℕ) (choice : Choice) (rest : List (List ℕ)) → label < 128
    → IsChoice choice
    → has_label instrs (label_name label) ≡ false → length instrs < 128
    → after_lines (case_facts pins instrs) number (pieces_text (instruction_line label choice) ∷ rest)
    ≡ after_lines (case_facts pins (instrs ++ named_for number label choice ∷ [])) (number + 1) rest
unfolding judged
instr_taken pins instrs number label choice rest small is new few =
    line_adds (case_facts pins instrs) number (instruction_line label choice) rest (Instruct (written_for label choice))
    (earlier.Instructs (named_for number label choice))
    (instruction_readable label choice small is) (instruction_form label choice)
    (rw (new, lt-leb 128 (length instrs) few)
    (ap (λ (r : Result NamedInstr AsmKind). r >>= instructs) (instr_reads number label choice is)))

-- an instruction more has no further label
instr_new : (instrs : List NamedInstr) (number first : ℕ) (choice : Choice) → first < 128 → NoLabelFrom instrs first
    → NoLabelFrom (instrs ++ named_for number first choice ∷ []) (first + 1)
instr_new instrs number first choice small none = λ label from is_label.
    list_any-append (λ (instr : NamedInstr). bytes_eq (label_name label) instr.label) instrs (named_for number first choice ∷ [])
    ∙ or_from (has_label instrs (label_name label)) (bytes_eq (label_name label) (label_name first) || false)
    (none label (omega arith) is_label)
    (or_from (bytes_eq (label_name label) (label_name first)) false (other_name label first is_label small (omega arith)) refl)

-- the instructions of some labels that follow each other
pub instrs_taken : (pins : List PinLine) (chosen : ℕ → Choice) (offset : ℕ) (instrs : List NamedInstr) (first count : ℕ)
    → ((label : ℕ) → IsChoice (chosen label)) → first + count ≤ 128
    → length instrs ≡ first → NoLabelFrom instrs first
    → after_lines (case_facts pins instrs) (offset + first)
    (map pieces_text (map (λ label. instruction_line label (chosen label)) (range_with_len first count)))
    ≡ Ok (case_facts pins (instrs ++ instrs_in chosen offset (range_with_len first count)))
unfolding lines_taken
instrs_taken pins chosen offset instrs first zero is fits len none =
    ap (λ (found : List NamedInstr). Ok (case_facts pins found)) (sym (append-nil instrs))
instrs_taken pins chosen offset instrs first (suc count) is fits len none =
    let instr : NamedInstr = named_for (offset + first) first (chosen first) in
    let next : offset + first + 1 ≡ offset + (first + 1) = omega arith in
    let rest : List (List ℕ) =
    map pieces_text (map (λ label. instruction_line label (chosen label)) (range_with_len (first + 1) count)) in
    instr_taken pins instrs (offset + first) first (chosen first) rest (omega arith) (is first) (none first (omega arith) (omega arith))
    (omega arith)
    ∙ ap (λ (k : ℕ). after_lines (case_facts pins (instrs ++ instr ∷ [])) k rest) next
    ∙ instrs_taken pins chosen offset (instrs ++ instr ∷ []) (first + 1) count is (omega arith)
    (omega (arith, length-append instrs (instr ∷ []), len))
    (instr_new instrs (offset + first) first (chosen first) (omega arith) none)
    ∙ ap (λ (found : List NamedInstr). Ok (case_facts pins found))
    (grouped instrs instr (instrs_in chosen offset (range_with_len (first + 1) count)))
