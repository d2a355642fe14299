-- An accepted source has at most 128 instructions.
use Rattle.std.proofs.Common.{ℕ, ◌≡◌, ◌≤◌, ◌<◌, ◌+◌, Bool, true, false, List, [], ◌∷◌, ◌++◌, length, Option, None, Some, Result, Ok, Err, refl, sym, subst, arith, length-append}
use Rattle.std.specs.Prelude.{IfOk, nat_le, nat_lt, is_some, ◌||◌, ◌==◌, if◌then◌else◌}
use Rattle.std.proofs.lemmas.List.{length-map}
use Rattle.std.proofs.lemmas.Bool.Decides.{nat_tests}
use Rattle.std.proofs.lemmas.List.{append-nil}
use Rattle.std.proofs.lemmas.List.Elements.{filter_map-append}
use Rattle.std.proofs.lemmas.Result.{IfOk-weaker}
use Rattle.micro_lex.specs.Lines.{lines}
use Rattle.field_decl.specs.declared.fault.AsmKind.{AsmKind}
use Rattle.field_decl.specs.declared.fault.AsmKind.TheVariants as kinds
use Rattle.field_decl.specs.declared.word.Word.{Word}
use Rattle.field_decl.specs.declared.directive.Directive.{Directive}
use Rattle.field_decl.specs.Judging.{refusal}
use Rattle.field_decl.specs.Layout.{completed}
use Rattle.field_decl.specs.LineByLine.{lines_read}
use Rattle.field_decl.specs.Declaration.{Declaration}
use Rattle.field_decl.specs.Results.{◌>>=◌, in_line, unless_refused}
use Rattle.field_decl.specs.Words.{words_of}
use Rattle.field_decl.proofs.LineByLine.{read_keeps}
use Rattle.flow_graph.specs.Graph.{Graph}
use Rattle.micro_asm.specs.declared.source_line.SourceLine.{SourceLine}
use Rattle.micro_asm.specs.declared.source_line.SourceLine.TheVariants as source_lines
use Rattle.micro_asm.specs.declared.written_instruction.WrittenInstr.{WrittenInstr}
use Rattle.micro_asm.specs.declared.accepted_lines.StartLine.{StartLine}
use Rattle.micro_asm.specs.declared.accepted_lines.NamedInstr.{NamedInstr}
use Rattle.micro_asm.specs.Earlier.{Line, Nothing, Declares, Rows, Starts, Pins, Instructs, Facts, facts_of, with_line, has_label, is_pinned}
use Rattle.micro_asm.specs.Judging.{judged, instruction_judged, instruction_read, instructs, is_late}
use Rattle.micro_asm.specs.Source.{line_read, program_of, source_of, instr_of, started, unknown_line, unless_unknown, built, ok_graph}
use Rattle.micro_asm.specs.SourceLines.{source_line_form}

-- ---- one line

-- with an accepted line there are at most 128 instructions
abbrev FewWith : Facts → Result Line AsmKind → Type 0
FewWith facts read = IfOk read (λ line. length (with_line facts line).instrs ≤ 128)

few_if : (facts : Facts) (b : Bool) (kind : AsmKind) (read : Result Line AsmKind) → FewWith facts read
    → FewWith facts (if b then Err kind else read)
few_if facts true kind read few = tt
few_if facts false kind read few = few

few_unless : (facts : Facts) (refused : Option AsmKind) (directive : Directive) → length facts.instrs ≤ 128
    → FewWith facts (unless_refused refused (Declares directive))
few_unless facts None directive few = few
few_unless facts (Some kind) directive few = tt

few_more : (facts : Facts) (read : Result NamedInstr AsmKind) → length facts.instrs < 128 → FewWith facts (read >>= instructs)
few_more facts (Ok instr) few = omega (arith, length-append facts.instrs (instr ∷ []))
few_more facts (Err kind) few = tt

few_room : (facts : Facts) (read : Result NamedInstr AsmKind) (b : Bool) → nat_le 128 (length facts.instrs) ≡ b
    → FewWith facts (if b then Err kinds.TooMany else (read >>= instructs))
few_room facts read true full = tt
few_room facts read false room = few_more facts read (grind (arith, nat_tests, room))

few_instruction : (facts : Facts) (number : ℕ) (instruction : WrittenInstr) (slices : Option ℕ)
    → FewWith facts (instruction_judged facts number instruction slices)
few_instruction facts number instruction None = tt
few_instruction facts number instruction (Some slices) =
    let read = instruction_read slices facts.declared number instruction in
    few_if facts (has_label facts.instrs instruction.label) kinds.LabelTwice
    (if nat_le 128 (length facts.instrs) then Err kinds.TooMany else (read >>= instructs))
    (few_room facts read (nat_le 128 (length facts.instrs)) refl)

few_judged : (facts : Facts) (number : ℕ) (source_line : SourceLine) → length facts.instrs ≤ 128
    → FewWith facts (judged facts number source_line)
unfolding judged
few_judged facts number source_lines.Nothing few = few
few_judged facts number (source_lines.Declares directive) few =
    let refused = refusal facts.declared directive in
    few_if facts (is_late facts) kinds.Late (unless_refused refused (Declares directive)) (few_unless facts refused directive few)
few_judged facts number (source_lines.Rows rows) few =
    let wrong = is_some facts.rows || nat_lt rows 1 || nat_lt 32 rows in
    few_if facts (is_late facts) kinds.Late (if wrong then Err kinds.Rows else Ok (Rows rows))
    (few_if facts wrong kinds.Rows (Ok (Rows rows)) few)
few_judged facts number (source_lines.Start label) few =
    few_if facts (is_some facts.start) kinds.StartTwice (Ok (Starts (record { line = number; label = label }))) few
few_judged facts number (source_lines.Pin label row col) few =
    let pin : Result Line AsmKind = Ok (Pins (record { line = number; label = label; cell = record { row = row; col = col } })) in
    few_if facts (nat_lt 31 row || nat_lt 15 col) kinds.PinRange (if is_pinned facts.pins label then Err kinds.PinTwice else pin)
    (few_if facts (is_pinned facts.pins label) kinds.PinTwice pin few)
few_judged facts number (source_lines.Instruct instruction) few = few_instruction facts number instruction facts.declared.slices

few_formed : (facts : Facts) (number : ℕ) (formed : Result SourceLine AsmKind) → length facts.instrs ≤ 128
    → FewWith facts (formed >>= judged facts number)
few_formed facts number (Ok source_line) few = few_judged facts number source_line few
few_formed facts number (Err kind) few = tt

few_worded : (facts : Facts) (number : ℕ) (words : Result (List Word) AsmKind) → length facts.instrs ≤ 128
    → FewWith facts (words >>= source_line_form >>= judged facts number)
few_worded facts number (Ok words) few = few_formed facts number (source_line_form words) few
few_worded facts number (Err kind) few = tt

few_line : (earlier : List Line) (line : List ℕ) → length (facts_of earlier).instrs ≤ 128
    → FewWith (facts_of earlier) (line_read earlier line)
unfolding line_read
few_line earlier line few = few_worded (facts_of earlier) (length earlier + 1) (words_of line) few

-- ---- all lines

-- the instructions with one line more
instrs_push : (earlier : List Line) (line : Line) → (facts_of (earlier ++ line ∷ [])).instrs ≡ (with_line (facts_of earlier) line).instrs
instrs_push earlier Nothing = simp (filter_map-append, append-nil)
instrs_push earlier (Declares directive) = simp (filter_map-append, append-nil)
instrs_push earlier (Rows rows) = simp (filter_map-append, append-nil)
instrs_push earlier (Starts start) = simp (filter_map-append, append-nil)
instrs_push earlier (Pins pin) = simp (filter_map-append, append-nil)
instrs_push earlier (Instructs instr) = simp filter_map-append

-- all lines have at most 128 instructions
few_lines : (all : List (List ℕ)) → IfOk (lines_read line_read [] all) (λ said. length (facts_of said).instrs ≤ 128)
few_lines all =
    read_keeps line_read (λ said. length (facts_of said).instrs ≤ 128)
    (λ earlier line few. IfOk-weaker (line_read earlier line) (λ read. length (with_line (facts_of earlier) read).instrs ≤ 128)
    (λ read. length (facts_of (earlier ++ read ∷ [])).instrs ≤ 128)
    (λ read more. subst (λ (instrs : List NamedInstr). length instrs ≤ 128) (sym (instrs_push earlier read)) more)
    (few_line earlier line few))
    [] all (omega arith)

-- ---- the program

abbrev FewIn : Result Graph (ℕ × AsmKind) → Type 0
FewIn (Ok g) = length g.instrs ≤ 128
FewIn (Err fault) = Unit {0}

few_built : (facts : Facts) (start : StartLine) (declared : Result Declaration (ℕ × AsmKind)) → length facts.instrs ≤ 128
    → FewIn (declared >>= ok_graph facts start)
few_built facts start (Ok decl) few = omega (arith, few, length-map facts.instrs (instr_of facts.instrs))
few_built facts start (Err fault) few = tt

few_unless_unknown : (line : Option ℕ) (graph : Result Graph (ℕ × AsmKind)) → FewIn graph → FewIn (unless_unknown line graph)
few_unless_unknown None graph few = few
few_unless_unknown (Some line) graph few = tt

few_started : (facts : Facts) (start : Option StartLine) → length facts.instrs ≤ 128 → FewIn (started facts start)
few_started facts None few = tt
few_started facts (Some start) few =
    few_unless_unknown (unknown_line facts start) (built facts start) (few_built facts start (in_line 0 (completed facts.declared)) few)

few_given : (b : Bool) (fault : ℕ × AsmKind) (graph : Result Graph (ℕ × AsmKind)) → FewIn graph → FewIn (if b then Err fault else graph)
few_given true fault graph few = tt
few_given false fault graph few = few

few_program : (facts : Facts) → length facts.instrs ≤ 128 → FewIn (program_of facts)
unfolding program_of
few_program facts few =
    few_given (length facts.instrs == 0) (0, kinds.Empty) (started facts facts.start) (few_started facts facts.start few)

few_source : (read : Result (List Line) (ℕ × AsmKind)) → IfOk read (λ said. length (facts_of said).instrs ≤ 128)
    → FewIn (read >>= λ all. program_of (facts_of all))
few_source (Ok all) few = few_program (facts_of all) few
few_source (Err fault) few = tt

-- an accepted source has at most 128 instructions
pub few_instrs : (source : List ℕ) (g : Graph) → source_of source ≡ Ok g → length g.instrs ≤ 128
few_instrs source g meant = subst FewIn meant (few_source (lines_read line_read [] (lines source)) (few_lines (lines source)))
