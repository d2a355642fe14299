-- The tokens of a line, or its first faulty place (this project's own choice).
use Rattle.std.specs.Prelude.{ℕ, ◌+◌, ◌-◌, Bool, not, ◌&&◌, ◌==◌, nat_lt, if◌then◌else◌, List, [], ◌∷◌, ◌++◌, length, drop, map, take_while, slice_index, Option, Some, None, Result, Ok, Err}
use Rattle.std.specs.List.{range_with_len}
use Rattle.micro_lex.specs.declared.token.Token.{Token}
use Rattle.micro_lex.specs.declared.token.TokenKind.{TokenKind}
use Rattle.micro_lex.specs.declared.token.TokenKind.TheVariants.{Colon, Bar, Equals, Minus}
use Rattle.micro_lex.specs.Alphabet.{is_run_byte, is_space, is_hash}
use Rattle.micro_lex.specs.Faults.{Cause, BadByte, Fault, in_column}
use Rattle.micro_lex.specs.Runs.{run_kind}

-- a line without its comment
abbrev pub code_of : List ℕ → List ℕ
code_of line = take_while (λ b. not (is_hash b)) line

-- the mark that a byte is; any other byte that is neither space nor of a run is faulty
abbrev pub mark_kind : ℕ → Result TokenKind Cause
mark_kind b = if b == 58 then Ok Colon else if b == 124 then Ok Bar else if b == 61 then Ok Equals else if b == 45 then Ok Minus else Err
    BadByte

-- the token between two places
abbrev pub spanned : ℕ → ℕ → Result TokenKind Cause → Result (Option Token) Cause
spanned start end (Ok kind) = Ok (Some (record { kind = kind; start = start; end = end }))
spanned start end (Err cause) = Err cause

-- what the first byte of the rest of a line begins: nothing at a space, a run as far as it goes, or a mark
abbrev pub beginning : ℕ → List ℕ → Result (Option Token) Cause
beginning place rest =
    if is_space (slice_index rest 0) then Ok None
    else if is_run_byte (slice_index rest 0) then spanned place (place + length (take_while is_run_byte rest))
    (run_kind (take_while is_run_byte rest))
    else spanned place (place + 1) (mark_kind (slice_index rest 0))

-- a byte of a run with one before it: a run is maximal, so none begins here
abbrev pub is_inside : List ℕ → ℕ → Bool
is_inside code place = nat_lt 0 place && is_run_byte (slice_index code (place - 1)) && is_run_byte (slice_index code place)

-- what a place of the code gives: a token that begins there, nothing, or a fault in its column
abbrev pub reading_at : List ℕ → ℕ → Result (Option Token) Fault
reading_at code place = if is_inside code place then Ok None else in_column (place + 1) (beginning place (drop place code))

-- these tokens, then the others
abbrev pub with_front : List Token → Result (List Token) Fault → Result (List Token) Fault
with_front front (Ok others) = Ok (front ++ others)
with_front front (Err fault) = Err fault

-- what a place gives, then the tokens of the places after it
abbrev pub with_reading : Result (Option Token) Fault → Result (List Token) Fault → Result (List Token) Fault
with_reading (Ok None) others = others
with_reading (Ok (Some token)) others = with_front (token ∷ []) others
with_reading (Err fault) others = Err fault

-- the tokens that the places give in order, or the first fault
abbrev pub collected : List (Result (Option Token) Fault) → Result (List Token) Fault
collected [] = Ok []
collected (reading ∷ rest) = with_reading reading (collected rest)

-- the tokens of a line from the left, or its first faulty place
unfoldable pub tokens_of : List ℕ → Result (List Token) Fault
tokens_of line = collected (map (reading_at (code_of line)) (range_with_len 0 (length (code_of line))))
