-- Going from what is declared to what is declared is judging each line after all lines before it.
use Rattle.std.proofs.Common.{◌≡◌, ℕ, List, [], ◌∷◌, ◌++◌, Option, Some, None, Result, Ok, Err, refl, sym, ap, ◌∙◌}
use Rattle.std.proofs.lemmas.List.{append-nil}
use Rattle.std.proofs.lemmas.List.Elements.{filter_map-append}
use Rattle.micro_lex.specs.Lines.{lines}
use Rattle.field_decl.specs.declared.directive.Directive.{Directive}
use Rattle.field_decl.specs.declared.directive.Directive.TheVariants.{Slices, KBus, Field, Prom, Write}
use Rattle.field_decl.specs.declared.fault.AsmKind.{AsmKind}
use Rattle.field_decl.specs.declared.refusal.Refusal.{Refusal}
use Rattle.field_decl.specs.declared.word.Word.{Word}
use Rattle.field_decl.specs.Declaration.{Declaration}
use Rattle.field_decl.specs.Earlier.{Declared, declared_by, with_directive, first, given_or}
use Rattle.field_decl.specs.Judging.{refusal}
use Rattle.field_decl.specs.Layout.{line_form, directives_in, line_refusal, line_read, layout_of, completed}
use Rattle.field_decl.specs.LayoutSteps.{line_judged, after_line, after_lines}
use Rattle.field_decl.specs.Results.{◌>>=◌, unless_refused, in_line, RefusesAt}
use Rattle.field_decl.specs.Words.{words_of}
use Rattle.field_decl.proofs.LineByLine.{summed_with, TakesAsRead, text_is, refused_text}

-- the first of a list with one element more
pub first_push : {X : Type 0} (xs : List X) (y : X) → first (xs ++ y ∷ []) ≡ given_or (first xs) y
first_push [] y = refl
first_push (x ∷ xs) y = refl

-- one directive more
pub declared_push : (earlier : List Directive) (directive : Directive)
    → declared_by (earlier ++ directive ∷ []) ≡ with_directive (declared_by earlier) directive
declared_push earlier (Slices slices) = simp (filter_map-append, first_push, append-nil)
declared_push earlier (KBus kbus) = simp (filter_map-append, first_push, append-nil)
declared_push earlier (Field name width default) = simp (filter_map-append, first_push, append-nil)
declared_push earlier (Prom words bits) = simp (filter_map-append, first_push, append-nil)
declared_push earlier (Write name) = simp (filter_map-append, first_push, append-nil)

-- what the lines so far declare
abbrev declares : List (Option Directive) → Declared
declares earlier = declared_by (directives_in earlier)

-- a line that says nothing declares nothing
said_nothing : (earlier : List (Option Directive)) → declares (earlier ++ None ∷ []) ≡ declares earlier
said_nothing earlier = ap declared_by (filter_map-append (λ line. line) earlier (None ∷ []) ∙ append-nil (directives_in earlier))

-- a line with a directive adds it
said_one : (earlier : List (Option Directive)) (directive : Directive)
    → declares (earlier ++ Some directive ∷ []) ≡ with_directive (declares earlier) directive
said_one earlier directive = ap declared_by (filter_map-append (λ line. line) earlier (Some directive ∷ []))
    ∙ declared_push (directives_in earlier) directive

abbrev ok_declared : Declared → Result Declared AsmKind
ok_declared declared = Ok declared

-- a directive is taken as it is judged
judged_one : (earlier : List (Option Directive)) (directive : Directive) (why : Option AsmKind)
    → unless_refused why (with_directive (declares earlier) directive) ≡ (unless_refused why (Some directive) >>= summed_with declares earlier)
judged_one earlier directive None = ap ok_declared (sym (said_one earlier directive))
judged_one earlier directive (Some kind) = refl

-- a line is taken as it is judged
judged_line : (earlier : List (Option Directive)) (read : Option Directive)
    → line_judged (declares earlier) read ≡ (unless_refused (line_refusal earlier read) read >>= summed_with declares earlier)
judged_line earlier None = ap ok_declared (sym (said_nothing earlier))
judged_line earlier (Some directive) = judged_one earlier directive (refusal (declares earlier) directive)

-- and so is its form
formed_line : (earlier : List (Option Directive)) (formed : Result (Option Directive) AsmKind)
    → (formed >>= line_judged (declares earlier))
    ≡ ((formed >>= λ read. unless_refused (line_refusal earlier read) read) >>= summed_with declares earlier)
formed_line earlier (Ok read) = judged_line earlier read
formed_line earlier (Err kind) = refl

-- and so are its words
worded_line : (earlier : List (Option Directive)) (words : Result (List Word) AsmKind)
    → (words >>= line_form >>= line_judged (declares earlier))
    ≡ ((words >>= line_form >>= λ read. unless_refused (line_refusal earlier read) read) >>= summed_with declares earlier)
worded_line earlier (Ok words) = formed_line earlier (line_form words)
worded_line earlier (Err kind) = refl

-- a line is taken into what is declared as it is read after the lines before it
taken : TakesAsRead line_read (λ state _ line. after_line state line) declares
unfolding after_line line_read
taken earlier line = worded_line earlier (words_of line)

abbrev pub finishing : Declared → Result Declaration (ℕ × AsmKind)
finishing declared = in_line 0 (completed declared)

-- a layout is what its lines declare one after the other, completed
pub layout_is : (bytes : List ℕ) → layout_of bytes ≡ (after_lines (declared_by []) 1 (lines bytes) >>= finishing)
layout_is bytes = text_is line_read (λ state _ line. after_line state line) declares finishing taken (lines bytes)

-- ---- what `read_decl` needs

-- what refuses a line refuses the layout
pub refused_in : (fault : Refusal AsmKind) (bytes : List ℕ) → RefusesAt fault (after_lines (declared_by []) 1 (lines bytes))
    → RefusesAt fault (layout_of bytes)
refused_in fault bytes h =
    refused_text finishing fault (after_lines (declared_by []) 1 (lines bytes)) (layout_of bytes) (layout_is bytes) h

-- what the lines declare is completed
pub completed_in : (declared : Declared) (bytes : List ℕ) → after_lines (declared_by []) 1 (lines bytes) ≡ Ok declared
    → layout_of bytes ≡ in_line 0 (completed declared)
completed_in declared bytes h = layout_is bytes ∙ ap (λ (r : Result Declared (ℕ × AsmKind)). r >>= finishing) h
