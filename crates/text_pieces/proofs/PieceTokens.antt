-- A line of pieces gives their tokens, each with its text.
use Rattle.std.proofs.Common.{◌≡◌, ℕ, ◌+◌, ◌-◌, false, List, [], ◌∷◌, ◌++◌, length, Ok, refl, sym, ap, ◌∙◌, append_assoc, arith}
use Rattle.std.specs.List.{prefix_len}
use Rattle.std.specs.Prelude.{map, decimal}
use Rattle.std.proofs.lemmas.List.{length-append}
use Rattle.micro_lex.specs.declared.token.Token.{Token}
use Rattle.micro_lex.specs.declared.token.TokenKind.TheVariants as tokens
use Rattle.micro_lex.specs.Alphabet.{is_run_byte}
use Rattle.micro_lex.specs.Tokens.{with_front, tokens_of}
use Rattle.micro_lex.proofs.Scan.{scan, scan_end, line_scanned}
use Rattle.micro_lex.proofs.Steps.{begins_run}
use Rattle.field_decl.specs.declared.word.Word.{Word}
use Rattle.field_decl.specs.declared.word.Word.TheVariants as words
use Rattle.field_decl.specs.Words.{word_from}
use Rattle.field_decl.proofs.SpacedRuns.{run_front, space_gives_none, text_of, number_is_run, name_is_run}
use Rattle.text_pieces.specs.Pieces as pieces
use Rattle.text_pieces.specs.Pieces.{Piece, Space, Colon, Bar, Equals, Minus, Name, Number, pieces_text, words_in, AreReadable}

-- ---- the tokens of pieces

-- the tokens of the pieces, of which the first begins at this place
abbrev pub tokens_at : ℕ → List Piece → List Token
tokens_at place [] = []
tokens_at place (Space ∷ rest) = tokens_at (place + 1) rest
tokens_at place (Colon ∷ rest) = record { kind = tokens.Colon; start = place; end = place + 1 } ∷ tokens_at (place + 1) rest
tokens_at place (Bar ∷ rest) = record { kind = tokens.Bar; start = place; end = place + 1 } ∷ tokens_at (place + 1) rest
tokens_at place (Equals ∷ rest) = record { kind = tokens.Equals; start = place; end = place + 1 } ∷ tokens_at (place + 1) rest
tokens_at place (Minus ∷ rest) = record { kind = tokens.Minus; start = place; end = place + 1 } ∷ tokens_at (place + 1) rest
tokens_at place (Name text ∷ rest) =
    record { kind = tokens.Name; start = place; end = place + length text } ∷ tokens_at (place + length text) rest
tokens_at place (Number number ∷ rest) =
    record { kind = tokens.Number number; start = place; end = place + length (decimal number) } ∷ tokens_at
    (place + length (decimal number)) rest

-- where no name or number comes first, no run goes on
no_run_after : (rest : List Piece) → pieces.begins_run rest ≡ false → prefix_len is_run_byte (pieces_text rest) ≡ 0
no_run_after [] h = refl
no_run_after (Space ∷ rest) h = refl
no_run_after (Colon ∷ rest) h = refl
no_run_after (Bar ∷ rest) h = refl
no_run_after (Equals ∷ rest) h = refl
no_run_after (Minus ∷ rest) h = refl
no_run_after (Name text ∷ rest) h = absurd cc
no_run_after (Number number ∷ rest) h = absurd cc

-- what each mark gives
colon_scanned : (place : ℕ) (bs : List ℕ)
    → scan false place (58 ∷ bs) ≡ with_front (record { kind = tokens.Colon; start = place; end = place + 1 } ∷ [])
    (scan false (place + 1) bs)
unfolding scan
colon_scanned place bs = refl

bar_scanned : (place : ℕ) (bs : List ℕ)
    → scan false place (124 ∷ bs) ≡ with_front (record { kind = tokens.Bar; start = place; end = place + 1 } ∷ [])
    (scan false (place + 1) bs)
unfolding scan
bar_scanned place bs = refl

equals_scanned : (place : ℕ) (bs : List ℕ)
    → scan false place (61 ∷ bs) ≡ with_front (record { kind = tokens.Equals; start = place; end = place + 1 } ∷ [])
    (scan false (place + 1) bs)
unfolding scan
equals_scanned place bs = refl

minus_scanned : (place : ℕ) (bs : List ℕ)
    → scan false place (45 ∷ bs) ≡ with_front (record { kind = tokens.Minus; start = place; end = place + 1 } ∷ [])
    (scan false (place + 1) bs)
unfolding scan
minus_scanned place bs = refl

-- the tokens of pieces, from a place on
scanned : (place : ℕ) (all : List Piece) → AreReadable all → scan false place (pieces_text all) ≡ Ok (tokens_at place all)
scanned place [] h = scan_end false place
scanned place (Space ∷ rest) h = space_gives_none place (pieces_text rest) ∙ scanned (place + 1) rest h
scanned place (Colon ∷ rest) h = colon_scanned place (pieces_text rest)
    ∙ ap (with_front (record { kind = tokens.Colon; start = place; end = place + 1 } ∷ [])) (scanned (place + 1) rest h)
scanned place (Bar ∷ rest) h = bar_scanned place (pieces_text rest)
    ∙ ap (with_front (record { kind = tokens.Bar; start = place; end = place + 1 } ∷ [])) (scanned (place + 1) rest h)
scanned place (Equals ∷ rest) h = equals_scanned place (pieces_text rest)
    ∙ ap (with_front (record { kind = tokens.Equals; start = place; end = place + 1 } ∷ [])) (scanned (place + 1) rest h)
scanned place (Minus ∷ rest) h = minus_scanned place (pieces_text rest)
    ∙ ap (with_front (record { kind = tokens.Minus; start = place; end = place + 1 } ∷ [])) (scanned (place + 1) rest h)
scanned place (Name text ∷ rest) h =
    let run = name_is_run text h.0 in
    run_front place text (pieces_text rest) tokens.Name run.some run.plain (no_run_after rest h.1) run.reads
    ∙ ap (with_front (record { kind = tokens.Name; start = place; end = place + length text } ∷ []))
    (scanned (place + length text) rest h.2)
scanned place (Number number ∷ rest) h =
    let run = number_is_run number h.0 in
    run_front place (decimal number) (pieces_text rest) (tokens.Number number) run.some run.plain (no_run_after rest h.1) run.reads
    ∙ ap (with_front (record { kind = tokens.Number number; start = place; end = place + length (decimal number) } ∷ []))
    (scanned (place + length (decimal number)) rest h.2)

-- a line of pieces gives their tokens
pub gives_tokens : (all : List Piece) → AreReadable all → tokens_of (pieces_text all) ≡ Ok (tokens_at 0 all)
gives_tokens all h = line_scanned (pieces_text all) ∙ scanned 0 all h

-- ---- the words of the tokens

-- a piece more in front
longer : (line front text rest : List ℕ) → line ≡ front ++ (text ++ rest) → line ≡ (front ++ text) ++ rest
longer line front text rest is = is ∙ sym (append_assoc front text rest)

-- the place behind it
further : (front text : List ℕ) (place : ℕ) → place ≡ length front → place + length text ≡ length (front ++ text)
further front text place at = omega (arith, at, length-append front text)

-- each token is read as the word of its piece
pub each_read : (line front : List ℕ) (place : ℕ) (all : List Piece) → line ≡ front ++ pieces_text all → place ≡ length front
    → map (word_from line) (tokens_at place all) ≡ words_in all
each_read line front place [] is at = refl
each_read line front place (Space ∷ rest) is at =
    each_read line (front ++ 32 ∷ []) (place + 1) rest (longer line front (32 ∷ []) (pieces_text rest) is)
    (further front (32 ∷ []) place at)
each_read line front place (Colon ∷ rest) is at =
    ap (λ (ws : List Word). words.Colon ∷ ws)
    (each_read line (front ++ 58 ∷ []) (place + 1) rest (longer line front (58 ∷ []) (pieces_text rest) is)
    (further front (58 ∷ []) place at))
each_read line front place (Bar ∷ rest) is at =
    ap (λ (ws : List Word). words.Bar ∷ ws)
    (each_read line (front ++ 124 ∷ []) (place + 1) rest (longer line front (124 ∷ []) (pieces_text rest) is)
    (further front (124 ∷ []) place at))
each_read line front place (Equals ∷ rest) is at =
    ap (λ (ws : List Word). words.Equals ∷ ws)
    (each_read line (front ++ 61 ∷ []) (place + 1) rest (longer line front (61 ∷ []) (pieces_text rest) is)
    (further front (61 ∷ []) place at))
each_read line front place (Minus ∷ rest) is at =
    ap (λ (ws : List Word). words.Minus ∷ ws)
    (each_read line (front ++ 45 ∷ []) (place + 1) rest (longer line front (45 ∷ []) (pieces_text rest) is)
    (further front (45 ∷ []) place at))
each_read line front place (Name text ∷ rest) is at =
    ap (λ (found : List ℕ). words.Name found ∷ map (word_from line) (tokens_at (place + length text) rest))
    (text_of line front text (pieces_text rest) place is at)
    ∙ ap (λ (ws : List Word). words.Name text ∷ ws)
    (each_read line (front ++ text) (place + length text) rest (longer line front text (pieces_text rest) is)
    (further front text place at))
each_read line front place (Number number ∷ rest) is at =
    ap (λ (ws : List Word). words.Number number ∷ ws)
    (each_read line (front ++ decimal number) (place + length (decimal number)) rest
    (longer line front (decimal number) (pieces_text rest) is) (further front (decimal number) place at))
