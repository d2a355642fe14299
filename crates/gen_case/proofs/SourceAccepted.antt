-- The source of a case is accepted, as the program of the case.
use Rattle.std.proofs.Common.{◌≡◌, ℕ, ◌+◌, ◌*◌, List, [], ◌++◌, length, Ok, refl, ap, subst, ◌∙◌, arith, eqb, inl, inr, lit<}
use Rattle.std.specs.Prelude.{map}
use Rattle.std.proofs.lemmas.Bool.{cases_Bool}
use Rattle.std.proofs.lemmas.List.{map-append}
use Rattle.micro_lex.specs.Lines.{lines}
use Rattle.micro_asm.specs.Earlier.{facts_of}
use Rattle.micro_asm.specs.Source.{source_of}
use Rattle.micro_asm.specs.SourceSteps.{after_lines}
use Rattle.micro_asm.proofs.SourceLaw.{finished_in}
use Rattle.text_pieces.specs.Pieces.{pieces_text, AreReadable}
use Rattle.text_pieces.specs.PieceLines.{AreReadableLines}
use Rattle.text_pieces.proofs.PieceTexts.{text_lines}
use Rattle.gen_case.specs.CaseProgram.{case_graph}
use Rattle.gen_case.specs.Choices.{IsFlow, IsChoice, flow_drawn, choice_of}
use Rattle.gen_case.specs.Draws.{state_after, draw}
use Rattle.gen_case.specs.Labels.{labels, pinned_labels}
use Rattle.gen_case.specs.SourceText.{header_lines, pin_line, case_line, source_lines, source_text}
use Rattle.gen_case.proofs.CaseLists.{IsLabel, append_all, map_all, all_labels, all_pinned, labels_count, pinned_count}
use Rattle.gen_case.proofs.CaseNames.{tested_name, label_is_name}
use Rattle.gen_case.proofs.DrawLemmas.{drawn_below}
use Rattle.gen_case.proofs.LineForms.{pin_readable, instruction_readable}
use Rattle.gen_case.proofs.LinesTaken.{case_facts, header_taken, pins_in, pins_taken, instrs_in, instrs_taken}
use Rattle.gen_case.proofs.ProgramReads.{HaveLabels, have_labels, program_reads}
use Rattle.gen_case.proofs.TextLemmas.{labels_are, pinned_are}

-- ---- the choices

-- what is drawn for a flow statement is in range
flow_in_range : (number state : ℕ) → IsFlow (flow_drawn number state)
flow_in_range number state = elim (cases_Bool (eqb number 0)) [
  | inl none ↦ rw none (drawn_below state 16 (lit< tt))
  | inr some ↦ elim (cases_Bool (eqb number 1)) [
    | inl one ↦ rw (some, one) (drawn_below state 8 (lit< tt))
    | inr more ↦ rw (some, more) (drawn_below state 8 (lit< tt))
  ]
]

-- each choice of a case is in range
pub choice_in_range : (number label : ℕ) → IsChoice (choice_of number label)
choice_in_range number label =
    let state : ℕ = state_after number (5 * label) in
    record {
      register = drawn_below (state_after state 2) 10 (lit< tt);
      value = drawn_below (state_after state 3) 16 (lit< tt);
      flow = flow_in_range (draw state 3 3) (state_after state 5);
    }

-- ---- the lines

-- the declarations can be read
pub header_readable : AreReadableLines header_lines
header_readable = (
  (tested_name _ refl refl refl refl, refl, (omega arith, refl, tt)),
  (
    (tested_name _ refl refl refl refl, refl, (omega arith, refl, tt)),
    (
      (tested_name _ refl refl refl refl, refl, (tested_name _ refl refl refl refl, refl, (omega arith, refl, (omega arith, refl, tt)))),
      ((tested_name _ refl refl refl refl, refl, (label_is_name 0 (lit< tt), refl, tt)), tt),
    ),
  ),
)

-- all lines can be read
lines_readable : (number : ℕ) → AreReadableLines (source_lines number)
lines_readable number =
    append_all AreReadable header_lines (map pin_line pinned_labels ++ map (case_line number) labels) header_readable
    (append_all AreReadable (map pin_line pinned_labels) (map (case_line number) labels)
    (map_all IsLabel AreReadable pin_line pinned_labels (λ label small. pin_readable label small) all_pinned)
    (map_all IsLabel AreReadable (case_line number) labels
    (λ label small. instruction_readable label (choice_of number label) small (choice_in_range number label)) all_labels))

-- the lines of the source
source_lines_are : (number : ℕ) → lines (source_text number) ≡ map pieces_text (source_lines number)
unfolding source_text
source_lines_are number = text_lines (source_lines number) (lines_readable number)

-- the pins' lines
pin_lines_taken : (n : ℕ) (rest : List (List ℕ)) → n ≡ 128
    → after_lines (case_facts [] []) 5 (map pieces_text (map pin_line pinned_labels) ++ rest) ≡ after_lines
    (case_facts (pins_in 5 pinned_labels) []) (5 + length pinned_labels) rest
pin_lines_taken n rest all =
    let P : List ℕ → Type 0 =
    λ ls. after_lines (case_facts [] []) 5 (map pieces_text (map pin_line ls) ++ rest) ≡ after_lines (case_facts (pins_in 5 ls) [])
    (5 + length ls) rest in
    subst P (pinned_are n all) (pins_taken [] 5 0 n rest (omega arith) (λ label from small. refl))

-- the instructions' lines
instr_lines_taken : (n number : ℕ) → n ≡ 128
    → after_lines (case_facts (pins_in 5 pinned_labels) []) 117 (map pieces_text (map (case_line number) labels)) ≡ Ok
    (case_facts (pins_in 5 pinned_labels) (instrs_in (choice_of number) 117 labels))
instr_lines_taken n number all =
    let pins = pins_in 5 pinned_labels in
    let P : List ℕ → Type 0 =
    λ ls. after_lines (case_facts pins []) 117 (map pieces_text (map (case_line number) ls)) ≡ Ok
    (case_facts pins (instrs_in (choice_of number) 117 ls)) in
    subst P (labels_are n all)
    (instrs_taken pins (choice_of number) 117 [] 0 n (choice_in_range number) (omega arith) refl (λ label from small. refl))

-- all lines
lines_taken : (n number : ℕ) → n ≡ 128
    → after_lines (facts_of []) 1 (lines (source_text number)) ≡ Ok
    (case_facts (pins_in 5 pinned_labels) (instrs_in (choice_of number) 117 labels))
lines_taken n number all =
    let instr_lines : List (List ℕ) = map pieces_text (map (case_line number) labels) in
    let line : 5 + length pinned_labels ≡ 117 = omega (arith, pinned_count) in
    ap (after_lines (facts_of []) 1) (source_lines_are number)
    ∙ header_taken (map pieces_text (map pin_line pinned_labels ++ map (case_line number) labels))
    ∙ ap (after_lines (case_facts [] []) 5) (map-append pieces_text (map pin_line pinned_labels) (map (case_line number) labels))
    ∙ pin_lines_taken n instr_lines all
    ∙ ap (λ (k : ℕ). after_lines (case_facts (pins_in 5 pinned_labels) []) k instr_lines) line
    ∙ instr_lines_taken n number all

-- ---- the source

-- the instructions have all labels
all_have : (n number : ℕ) → n ≡ 128 → HaveLabels (instrs_in (choice_of number) 117 labels)
all_have n number all =
    subst (λ (ls : List ℕ). HaveLabels (instrs_in (choice_of number) 117 ls)) (labels_are n all)
    (have_labels (choice_of number) 117 n all)

-- the source of a case means its program
pub source_accepted : (number : ℕ) → source_of (source_text number) ≡ Ok (case_graph number)
unfolding case_graph
source_accepted number =
    finished_in (case_facts (pins_in 5 pinned_labels) (instrs_in (choice_of number) 117 labels)) (source_text number)
    (lines_taken 128 number refl)
    ∙ program_reads (choice_of number) 5 pinned_labels labels (choice_in_range number) (all_have 128 number refl)
    (omega (arith, labels_count)) all_pinned all_labels
