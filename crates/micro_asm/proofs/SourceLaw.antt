-- Going from what is said to what is said is judging each line after all lines before it.
use Rattle.std.proofs.Common.{◌≡◌, ℕ, ◌+◌, List, [], ◌∷◌, ◌++◌, length, Result, Ok, Err, refl, sym, ap, ◌∙◌}
use Rattle.std.specs.List.{filter_map}
use Rattle.std.proofs.lemmas.List.{append-nil}
use Rattle.std.proofs.lemmas.List.Elements.{filter_map-append}
use Rattle.micro_lex.specs.Lines.{lines}
use Rattle.field_decl.specs.declared.fault.AsmKind.{AsmKind}
use Rattle.field_decl.specs.declared.word.Word.{Word}
use Rattle.field_decl.specs.Earlier.{Declared, declared_by, with_directive, first}
use Rattle.field_decl.specs.Results.{◌>>=◌, RefusesAt}
use Rattle.field_decl.specs.Words.{words_of}
use Rattle.field_decl.proofs.LayoutLaw.{first_push, declared_push}
use Rattle.field_decl.proofs.LineByLine.{summed_with, TakesAsRead, text_is, refused_text}
use Rattle.field_decl.specs.declared.refusal.Refusal.{Refusal}
use Rattle.micro_asm.specs.declared.source_line.SourceLine.{SourceLine}
use Rattle.micro_asm.specs.Earlier.{Line, Nothing, Declares, Rows, Starts, Pins, Instructs, Facts, facts_of, with_line, directive_in, rows_in, start_in, pin_in, instr_in}
use Rattle.micro_asm.specs.Judging.{judged, taken}
use Rattle.micro_asm.specs.Source.{line_read, program_of, source_of}
use Rattle.micro_asm.specs.SourceSteps.{after_source_line, after_line, after_lines}
use Rattle.micro_asm.specs.SourceLines.{source_line_form}

-- one line more
facts_push : (earlier : List Line) (line : Line) → facts_of (earlier ++ line ∷ []) ≡ with_line (facts_of earlier) line
facts_push earlier Nothing = simp (filter_map-append, append-nil)
facts_push earlier (Declares directive) =
    let declared : declared_by (filter_map directive_in (earlier ++ Declares directive ∷ [])) ≡ with_directive
    (declared_by (filter_map directive_in earlier)) directive =
    ap declared_by (filter_map-append directive_in earlier (Declares directive ∷ []))
    ∙ declared_push (filter_map directive_in earlier) directive in
    let with_declared : Declared → Facts = λ d.
    record {
      declared = d;
      rows = first (filter_map rows_in (earlier ++ Declares directive ∷ []));
      start = first (filter_map start_in (earlier ++ Declares directive ∷ []));
      pins = filter_map pin_in (earlier ++ Declares directive ∷ []);
      instrs = filter_map instr_in (earlier ++ Declares directive ∷ []);
    }
    in
    ap with_declared declared ∙ simp (filter_map-append, append-nil)
facts_push earlier (Rows rows) = simp (filter_map-append, first_push, append-nil)
facts_push earlier (Starts start) = simp (filter_map-append, first_push, append-nil)
facts_push earlier (Pins pin) = simp (filter_map-append, append-nil)
facts_push earlier (Instructs instr) = simp (filter_map-append, append-nil)

abbrev ok_facts : Facts → Result Facts AsmKind
ok_facts facts = Ok facts

-- a line is taken as it is judged
taken_one : (earlier : List Line) (read : Result Line AsmKind) → taken (facts_of earlier) read ≡ (read >>= summed_with facts_of earlier)
taken_one earlier (Ok line) = ap ok_facts (sym (facts_push earlier line))
taken_one earlier (Err kind) = refl

-- and so is its form
formed_line : (earlier : List Line) (number : ℕ) (formed : Result SourceLine AsmKind)
    → (formed >>= after_source_line (facts_of earlier) number) ≡ ((formed >>= judged (facts_of earlier) number) >>= summed_with facts_of earlier)
formed_line earlier number (Ok source_line) = taken_one earlier (judged (facts_of earlier) number source_line)
formed_line earlier number (Err kind) = refl

-- and so are its words
worded_line : (earlier : List Line) (number : ℕ) (words : Result (List Word) AsmKind)
    → (words >>= source_line_form >>= after_source_line (facts_of earlier) number)
    ≡ ((words >>= source_line_form >>= judged (facts_of earlier) number) >>= summed_with facts_of earlier)
worded_line earlier number (Ok words) = formed_line earlier number (source_line_form words)
worded_line earlier number (Err kind) = refl

-- and so is its text
line_taken : TakesAsRead line_read after_line facts_of
unfolding after_line line_read
line_taken earlier line = worded_line earlier (length earlier + 1) (words_of line)

-- a source is what its lines say one after the other, finished
source_is : (bytes : List ℕ) → source_of bytes ≡ (after_lines (facts_of []) 1 (lines bytes) >>= program_of)
source_is bytes = text_is line_read after_line facts_of program_of line_taken (lines bytes)

-- ---- what `assemble` needs

-- what refuses a line refuses the source
pub refused_in : (fault : Refusal AsmKind) (bytes : List ℕ) → RefusesAt fault (after_lines (facts_of []) 1 (lines bytes))
    → RefusesAt fault (source_of bytes)
refused_in fault bytes h =
    refused_text program_of fault (after_lines (facts_of []) 1 (lines bytes)) (source_of bytes) (source_is bytes) h

-- what the lines say is finished
pub finished_in : (facts : Facts) (bytes : List ℕ) → after_lines (facts_of []) 1 (lines bytes) ≡ Ok facts
    → source_of bytes ≡ program_of facts
finished_in facts bytes h = source_is bytes ∙ ap (λ (r : Result Facts (ℕ × AsmKind)). r >>= program_of) h
