-- A text of lines of pieces has just those lines, and each is read as its words.
use Rattle.std.proofs.Common.{◌≡◌, ℕ, true, List, [], ◌∷◌, ◌++◌, Result, Ok, refl, ap, ◌∙◌, append_assoc}
use Rattle.std.specs.List.{list_all}
use Rattle.std.specs.Prelude.{map, decimal}
use Rattle.micro_lex.specs.Lines.{pieces, without_cr, lines}
use Rattle.field_decl.specs.declared.fault.AsmKind.{AsmKind}
use Rattle.field_decl.specs.declared.word.Word.{Word}
use Rattle.field_decl.specs.Words as sources
use Rattle.field_decl.proofs.SpacedRuns.{is_unbroken, first_piece, no_cr, run_unbroken, both_unbroken, number_is_run}
use Rattle.bus_script.specs.declared.fault.ScriptKind.{ScriptKind}
use Rattle.bus_script.specs.Words as scripts
use Rattle.text_pieces.specs.Pieces.{Piece, Space, Colon, Bar, Equals, Minus, Name, Number, pieces_text, words_in, AreReadable}
use Rattle.text_pieces.specs.PieceLines.{line_text, lines_text, AreReadableLines}
use Rattle.text_pieces.proofs.PieceTokens.{gives_tokens, each_read}

-- ---- the words of a line

-- words as an answer
abbrev ok_words : {E : Type 0} → List Word → Result (List Word) E
ok_words words = Ok words

-- a source's line of pieces is read as their words
pub source_words : (all : List Piece) → AreReadable all → sources.words_of (pieces_text all) ≡ Ok (words_in all)
unfolding sources.words_of
source_words all h = ap (sources.words_from (pieces_text all)) (gives_tokens all h)
    ∙ ap (ok_words {E = AsmKind}) (each_read (pieces_text all) [] 0 all refl refl)

-- so is a script's
pub script_words : (all : List Piece) → AreReadable all → scripts.words_of (pieces_text all) ≡ Ok (words_in all)
unfolding scripts.words_of
script_words all h = ap (scripts.words_with (pieces_text all)) (gives_tokens all h)
    ∙ ap (ok_words {E = ScriptKind}) (each_read (pieces_text all) [] 0 all refl refl)

-- ---- the lines of a text

-- pieces have no LF and no CR
pieces_unbroken : (all : List Piece) → AreReadable all → list_all is_unbroken (pieces_text all) ≡ true
pieces_unbroken [] h = refl
pieces_unbroken (Space ∷ rest) h = pieces_unbroken rest h
pieces_unbroken (Colon ∷ rest) h = pieces_unbroken rest h
pieces_unbroken (Bar ∷ rest) h = pieces_unbroken rest h
pieces_unbroken (Equals ∷ rest) h = pieces_unbroken rest h
pieces_unbroken (Minus ∷ rest) h = pieces_unbroken rest h
pieces_unbroken (Name text ∷ rest) h = both_unbroken text (pieces_text rest) (run_unbroken text h.0.plain) (pieces_unbroken rest h.2)
pieces_unbroken (Number number ∷ rest) h =
    both_unbroken (decimal number) (pieces_text rest) (run_unbroken (decimal number) (number_is_run number h.0).plain)
    (pieces_unbroken rest h.2)

-- a line of pieces is the first line of the text that it begins
pub first_line : (all : List Piece) (rest : List ℕ) → AreReadable all → lines (line_text all ++ rest) ≡ pieces_text all ∷ lines rest
first_line all rest h =
    ap lines (append_assoc (pieces_text all) (10 ∷ []) rest)
    ∙ ap (map without_cr) (first_piece (pieces_text all) rest (pieces_unbroken all h))
    ∙ ap (λ (l : List ℕ). l ∷ lines rest) (no_cr (pieces_text all) (pieces_unbroken all h))

-- a text of lines of pieces has just those lines
pub text_lines : (all : List (List Piece)) → AreReadableLines all → lines (lines_text all) ≡ map pieces_text all
text_lines [] h = refl
text_lines (line ∷ rest) h = first_line line (lines_text rest) h.0
    ∙ ap (λ (ls : List (List ℕ)). pieces_text line ∷ ls) (text_lines rest h.1)
