-- What the lines of a case's source say is the program of the case.
use Rattle.std.proofs.Common.{◌≡◌, ℕ, zero, suc, ◌+◌, ◌≤◌, ◌<◌, Bool, true, false, cond, List, [], ◌∷◌, length, Option, Some, None, Result, Ok, refl, sym, ap, ◌∙◌, arith, eqb, inl, inr}
use Rattle.std.specs.Prelude.{map, find, unwrap_or, option_map, nat_lt}
use Rattle.std.specs.List.{range_with_len, list_any, AllByRecursion, position_or_len}
use Rattle.std.specs.Str.{bytes_eq}
use Rattle.std.proofs.lemmas.Bool.{cases_Bool, lt-ltb, ne_eqb, eqb-true, or_left, or_right}
use Rattle.std.proofs.lemmas.List.{length-map}
use Rattle.std.proofs.lemmas.List.FromFn.{length-range_with_len}
use Rattle.field_decl.specs.declared.fault.AsmKind.{AsmKind}
use Rattle.flow_graph.specs.declared.instructions.Instr.{Instr}
use Rattle.flow_graph.specs.declared.pinning.Pin.{Pin}
use Rattle.flow_graph.specs.Graph.{Graph}
use Rattle.micro_asm.specs.declared.accepted_lines.NamedInstr.{NamedInstr}
use Rattle.micro_asm.specs.Earlier.{Facts, has_label}
use Rattle.micro_asm.specs.Source.{is_unknown, unknown_pin, unknown_target, unknown_line, first_line, label_place, target_place, pin_of, instr_of, built, unless_unknown, program_of}
use Rattle.gen_case.specs.declared.choices.Choice.{Choice}
use Rattle.gen_case.specs.CaseProgram.{case_declaration, case_pin, instr_for}
use Rattle.gen_case.specs.Choices.{IsChoice}
use Rattle.gen_case.specs.Labels.{label_name, targets_of}
use Rattle.gen_case.proofs.CaseNames.{own_name, other_name}
use Rattle.gen_case.proofs.InstrReads.{named_for}
use Rattle.gen_case.proofs.LineForms.{targets_below}
use Rattle.gen_case.proofs.LinesTaken.{case_start, case_facts, pins_in, instrs_in}

-- ---- the places of labels

-- the name of a label that is another number
named_alike : (a b : ℕ) → a ≡ b → bytes_eq (label_name a) (label_name b) ≡ true
named_alike a b e = ap (λ (k : ℕ). bytes_eq (label_name a) (label_name k)) (sym e) ∙ own_name a

-- how many instructions stand before that of a label
before_label : (chosen : ℕ → Choice) (offset first count label place : ℕ) → label ≡ first + place → place < count → first + count ≤ 128
    → position_or_len (λ instr. bytes_eq (label_name label) instr.label) (instrs_in chosen offset (range_with_len first count)) ≡ place
before_label chosen offset first zero label place is within fits = absurd (omega arith)
before_label chosen offset first (suc count) label zero is within fits = rw (named_alike label first (omega arith)) refl
before_label chosen offset first (suc count) label (suc place) is within fits =
    rw (other_name label first (omega arith) (omega arith) (omega arith))
    (let more = before_label chosen offset (first + 1) count label place (omega arith) (omega arith) (omega arith) in omega (arith, more))

-- each label is the place of its instruction
pub placed : (chosen : ℕ → Choice) (offset count label : ℕ) → label < count → count ≤ 128
    → label_place (instrs_in chosen offset (range_with_len 0 count)) (label_name label) ≡ Some label
placed chosen offset count label within fits =
    let instrs : List NamedInstr = instrs_in chosen offset (range_with_len 0 count) in
    let size : length instrs ≡ count = length-map (range_with_len 0 count) (λ l. named_for (offset + l) l (chosen l))
    ∙ length-range_with_len 0 count in
    let at : position_or_len (λ instr. bytes_eq (label_name label) instr.label) instrs ≡ label =
    before_label chosen offset 0 count label label (omega arith) within (omega arith) in
    ap (λ (k : ℕ). cond (nat_lt k (length instrs)) (Some k) None) at
    ∙ ap (λ (k : ℕ). cond (nat_lt label k) (Some label) None) size
    ∙ ap (λ (b : Bool). cond b (Some label) None) (lt-ltb label count within)

-- a label among some that follow each other has an instruction
labelled : (chosen : ℕ → Choice) (offset first count label : ℕ) → first ≤ label → label < first + count → first + count ≤ 128
    → has_label (instrs_in chosen offset (range_with_len first count)) (label_name label) ≡ true
labelled chosen offset first zero label from within fits = absurd (omega arith)
labelled chosen offset first (suc count) label from within fits =
    let rest : List NamedInstr = instrs_in chosen offset (range_with_len (first + 1) count) in
    elim (cases_Bool (eqb label first)) [
      | inl same ↦ or_left (bytes_eq (label_name label) (label_name first)) (has_label rest (label_name label))
          (named_alike label first (eqb-true label first same))
      | inr other ↦
          let further : first + 1 ≤ label = later other from in
          or_right (bytes_eq (label_name label) (label_name first)) (has_label rest (label_name label))
          (labelled chosen offset (first + 1) count label further (omega arith) (omega arith))
    ]
  where
    later : {label first : ℕ} → eqb label first ≡ false → first ≤ label → first + 1 ≤ label
    later {label} {first} other from = grind arith

-- ---- every label that is named is known

-- the instructions have each label of a case, at its place
pub record HaveLabels (instrs : List NamedInstr) : Type 0 where
  pub known : (label : ℕ) → label < 128 → has_label instrs (label_name label) ≡ true
  pub at : (label : ℕ) → label < 128 → label_place instrs (label_name label) ≡ Some label

-- those of all labels do
pub have_labels : (chosen : ℕ → Choice) (offset count : ℕ) → count ≡ 128 → HaveLabels (instrs_in chosen offset (range_with_len 0 count))
have_labels chosen offset count all = record {
  known = λ label small. labelled chosen offset 0 count label (omega arith) (omega arith) (omega arith);
  at = λ label small. placed chosen offset count label (omega arith) (omega arith);
}

-- no pin names an unknown label
pins_known : (instrs : List NamedInstr) (number : ℕ) (labels : List ℕ) → HaveLabels instrs → AllByRecursion (λ label. label < 128) labels
    → unknown_pin instrs (pins_in number labels) ≡ None
pins_known instrs number [] have all = refl
pins_known instrs number (label ∷ labels) have all = rw (have.known label all.0) (pins_known instrs (number + 1) labels have all.1)

-- no target is an unknown label
target_known : (instrs : List NamedInstr) (targets : List ℕ) → HaveLabels instrs → AllByRecursion (λ label. label < 128) targets
    → list_any (is_unknown instrs) (map (λ target. Some (label_name target)) targets) ≡ false
target_known instrs [] have all = refl
target_known instrs (target ∷ targets) have all = rw (have.known target all.0) (target_known instrs targets have all.1)

-- nor does any instruction's target
targets_known : (instrs : List NamedInstr) (chosen : ℕ → Choice) (offset : ℕ) (labels : List ℕ) → HaveLabels instrs
    → ((label : ℕ) → IsChoice (chosen label)) → AllByRecursion (λ label. label < 128) labels
    → option_map (λ instr. instr.line)
    (find (λ instr. list_any (is_unknown instrs) instr.targets) (instrs_in chosen offset labels)) ≡ None
targets_known instrs chosen offset [] have is all = refl
targets_known instrs chosen offset (label ∷ labels) have is all =
    rw (target_known instrs (targets_of label (chosen label).flow) have (targets_below label (chosen label).flow all.0 (is label).flow))
    (targets_known instrs chosen offset labels have is all.1)

-- ---- the graph

-- the pins of labels
pins_are : (instrs : List NamedInstr) (number : ℕ) (labels : List ℕ) → HaveLabels instrs → AllByRecursion (λ label. label < 128) labels
    → map (pin_of instrs) (pins_in number labels) ≡ map case_pin labels
pins_are instrs number [] have all = refl
pins_are instrs number (label ∷ labels) have all =
    rw (have.at label all.0) (ap (λ (ps : List Pin). case_pin label ∷ ps) (pins_are instrs (number + 1) labels have all.1))

-- the targets of an instruction
targets_are : (instrs : List NamedInstr) (targets : List ℕ) → HaveLabels instrs → AllByRecursion (λ label. label < 128) targets
    → map (target_place instrs) (map (λ target. Some (label_name target)) targets) ≡ map (λ target. Some target) targets
targets_are instrs [] have all = refl
targets_are instrs (target ∷ targets) have all =
    rw (have.at target all.0) (ap (λ (ts : List (Option ℕ)). Some target ∷ ts) (targets_are instrs targets have all.1))

-- the instruction of a choice with these targets
abbrev with_targets : ℕ → ℕ → Choice → List (Option ℕ) → Instr
with_targets number label choice targets = record (instr_for label choice) { line = number; targets = targets }

-- the instructions of labels
instrs_are : (instrs : List NamedInstr) (chosen : ℕ → Choice) (labels : List ℕ) → HaveLabels instrs
    → ((label : ℕ) → IsChoice (chosen label)) → AllByRecursion (λ label. label < 128) labels
    → map (instr_of instrs) (instrs_in chosen 117 labels) ≡ map (λ label. instr_for label (chosen label)) labels
instrs_are instrs chosen [] have is all = refl
instrs_are instrs chosen (label ∷ labels) have is all =
    ap (λ (ts : List (Option ℕ)). with_targets (117 + label) label (chosen label) ts ∷ map (instr_of instrs)
    (instrs_in chosen 117 labels))
    (targets_are instrs (targets_of label (chosen label).flow) have (targets_below label (chosen label).flow all.0 (is label).flow))
    ∙ ap (λ (found : List Instr). instr_for label (chosen label) ∷ found) (instrs_are instrs chosen labels have is all.1)

-- a program of a case with these parts, as an answer
abbrev graph_as : ℕ → List Pin → List Instr → Result Graph (ℕ × AsmKind)
graph_as start pins instrs = Ok (record { decl = case_declaration; rows = 32; start = start; pins = pins; instrs = instrs })

-- what the lines of a case say is its program
pub program_reads : (chosen : ℕ → Choice) (number : ℕ) (pinned labels : List ℕ) → ((label : ℕ) → IsChoice (chosen label))
    → HaveLabels (instrs_in chosen 117 labels) → 0 < length labels
    → AllByRecursion (λ label. label < 128) pinned → AllByRecursion (λ label. label < 128) labels
    → program_of (case_facts (pins_in number pinned) (instrs_in chosen 117 labels)) ≡ graph_as 0 (map case_pin pinned)
    (map (λ label. instr_for label (chosen label)) labels)
unfolding program_of
program_reads chosen number pinned labels is have some all_pinned all =
    let instrs : List NamedInstr = instrs_in chosen 117 labels in
    let facts : Facts = case_facts (pins_in number pinned) instrs in
    let size : length instrs ≡ length labels = length-map labels (λ l. named_for (117 + l) l (chosen l)) in
    let filled : eqb (length instrs) 0 ≡ false = ne_eqb (length instrs) 0 (λ none. absurd (omega (arith, none, size, some))) in
    let known : unknown_line facts case_start ≡ None =
    ap (λ (b : Bool). first_line (cond b None (Some 4)) (first_line (unknown_pin instrs facts.pins) (unknown_target instrs)))
    (have.known 0 (omega arith))
    ∙ ap (λ (line : Option ℕ). first_line line (unknown_target instrs)) (pins_known instrs number pinned have all_pinned)
    ∙ targets_known instrs chosen 117 labels have is all in
    rw filled (
    ap (λ (line : Option ℕ). unless_unknown line (built facts case_start)) known
    ∙ ap (λ (start : Option ℕ). graph_as (unwrap_or start 0) (map (pin_of instrs) facts.pins) (map (instr_of instrs) instrs))
    (have.at 0 (omega arith))
    ∙ ap (λ (pins : List Pin). graph_as 0 pins (map (instr_of instrs) instrs)) (pins_are instrs number pinned have all_pinned)
    ∙ ap (λ (found : List Instr). graph_as 0 (map case_pin pinned) found) (instrs_are instrs chosen labels have is all))
