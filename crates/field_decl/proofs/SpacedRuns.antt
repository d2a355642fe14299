-- A line of runs with one space between each two gives their tokens, and is one line of its text.
use Rattle.std.proofs.Common.{◌≡◌, ℕ, ◌+◌, ◌-◌, ◌<◌, Bool, true, false, not, ◌&&◌, List, [], ◌∷◌, ◌++◌, length, take, drop, Option, Result, Ok, refl, ap, ◌∙◌, append_assoc, arith, eqb}
use Rattle.std.specs.List.{prefix_len, list_all}
use Rattle.std.specs.Prelude.{slice_index, slice_range, map, take_while, ◌^◌}
use Rattle.std.proofs.Math.Seq.{take-append_seam, drop-append_seam}
use Rattle.std.proofs.lemmas.List.{length-append}
use Rattle.std.proofs.lemmas.List.Folds.{list_all-append}
use Rattle.std.specs.Char.{is_ascii_digit, digit_value}
use Rattle.std.specs.Cmp.Derive.{both_true}
use Rattle.std.specs.Fmt.{decimal}
use Rattle.std.specs.Str.Parse.{AllDigits}
use Rattle.std.proofs.lemmas.Fmt.{decimal_is_IsNumeral_wide}
use Rattle.std.proofs.lemmas.Str.Parse.{digit_from_value}
use Rattle.std.proofs.lemmas.Bool.{and_parts, and_from, lt-ltb, le-ltb, not-true}
use Rattle.micro_lex.specs.declared.token.TokenKind.TheVariants.{Name, Number}
use Rattle.micro_lex.specs.declared.token.Token.{Token}
use Rattle.micro_lex.specs.declared.token.TokenKind.{TokenKind}
use Rattle.micro_lex.specs.Alphabet.{is_run_byte, is_space, is_hash}
use Rattle.micro_lex.specs.Faults.{Cause, in_column}
use Rattle.micro_lex.specs.Lines.{pieces, onto_first, without_cr, lines}
use Rattle.micro_lex.specs.Names.{IsName}
use Rattle.micro_lex.specs.Runs.{run_kind}
use Rattle.micro_lex.specs.Tokens.{spanned, with_front, with_reading, tokens_of}
use Rattle.micro_lex.proofs.Scan.{scan, scan_end, scan_begins, past_first_run, line_scanned}
use Rattle.micro_lex.proofs.Steps.{begins_run}
use Rattle.field_decl.specs.Spaced.{Run, IsRun, AreRuns, spaced, after_space, tokens_at}

-- ---- tokens

-- a run goes as far as it is written, where no byte of a run follows
run_len : (run rest : List ℕ) → list_all is_run_byte run ≡ true → prefix_len is_run_byte rest ≡ 0
    → prefix_len is_run_byte (run ++ rest) ≡ length run
run_len [] rest h z = z
run_len (b ∷ bs) rest h z =
    let both = and_parts (is_run_byte b) (list_all is_run_byte bs) h in
    rw both.0 (let more = run_len bs rest both.1 z in omega (arith, more))

-- and is taken whole
run_taken : (run rest : List ℕ) → list_all is_run_byte run ≡ true → prefix_len is_run_byte rest ≡ 0
    → take_while is_run_byte (run ++ rest) ≡ run
run_taken run rest h z = ap (λ (n : ℕ). take n (run ++ rest)) (run_len run rest h z) ∙ take-append_seam run rest

-- a byte of a run is no space and begins no comment
plain_byte : (b : ℕ) → is_run_byte b ≡ true → (is_hash b ≡ false) × (is_space b ≡ false)
plain_byte b w = (grind arith, grind arith)

-- a run at the front gives its token
pub run_front : (place : ℕ) (run rest : List ℕ) (kind : TokenKind) → 0 < length run → list_all is_run_byte run ≡ true
    → prefix_len is_run_byte rest ≡ 0 → run_kind run ≡ Ok kind
    → scan false place (run ++ rest) ≡ with_front (record { kind = kind; start = place; end = place + length run } ∷ [])
    (scan false (place + length run) rest)
run_front place [] rest kind some h z reads = absurd (omega arith)
run_front place (b ∷ bs) rest kind some h z reads =
    let both = and_parts (is_run_byte b) (list_all is_run_byte bs) h in
    let plain = plain_byte b both.0 in
    let run : List ℕ = take_while is_run_byte (b ∷ bs ++ rest) in
    scan_begins place b (bs ++ rest) plain.0
    ∙ ap (λ (r : Result (Option Token) Cause). with_reading (in_column (place + 1) r) (scan (is_run_byte b) (place + 1) (bs ++ rest)))
    (begins_run place b (bs ++ rest) plain.1 both.0)
    ∙ ap (with_reading (in_column (place + 1) (spanned place (place + length run) (run_kind run))))
    (ap (λ (x : Bool). scan x (place + 1) (bs ++ rest)) both.0 ∙ past_first_run place b (bs ++ rest) both.0)
    ∙ ap (λ (r : List ℕ). with_reading (in_column (place + 1) (spanned place (place + length r) (run_kind r)))
    (scan false (place + length r) (drop (length r) (b ∷ bs ++ rest)))) (run_taken (b ∷ bs) rest h z)
    ∙ ap (λ (k : Result TokenKind Cause). with_reading (in_column (place + 1) (spanned place (place + length (b ∷ bs)) k))
    (scan false (place + length (b ∷ bs)) (drop (length (b ∷ bs)) (b ∷ bs ++ rest)))) reads
    ∙ ap (λ (xs : List ℕ). with_front (record { kind = kind; start = place; end = place + length (b ∷ bs) } ∷ [])
    (scan false (place + length (b ∷ bs)) xs)) (drop-append_seam (b ∷ bs) rest)

-- after a run comes a space or nothing
no_run_after : (runs : List Run) → prefix_len is_run_byte (after_space runs) ≡ 0
no_run_after [] = refl
no_run_after (run ∷ runs) = refl

-- a space gives nothing
pub space_gives_none : (place : ℕ) (bs : List ℕ) → scan false place (32 ∷ bs) ≡ scan false (place + 1) bs
unfolding scan
space_gives_none place bs = refl

-- the tokens of spaced runs, from a place on
scanned : (place : ℕ) (runs : List Run) → AreRuns runs → scan false place (spaced runs) ≡ Ok (tokens_at place runs)
scanned place [] all = scan_end false place
scanned place (run ∷ []) all =
    run_front place run.0 [] run.1 all.0.some all.0.plain refl all.0.reads
    ∙ ap (with_front (record { kind = run.1; start = place; end = place + length run.0 } ∷ [])) (scan_end false (place + length run.0))
scanned place (run ∷ next ∷ runs) all =
    run_front place run.0 (after_space (next ∷ runs)) run.1 all.0.some all.0.plain (no_run_after (next ∷ runs)) all.0.reads
    ∙ ap (with_front (record { kind = run.1; start = place; end = place + length run.0 } ∷ []))
    (space_gives_none (place + length run.0) (next.0 ++ after_space runs) ∙ scanned (place + length run.0 + 1) (next ∷ runs) all.1)

-- a line of runs gives their tokens
pub gives_tokens : (runs : List Run) → AreRuns runs → tokens_of (spaced runs) ≡ Ok (tokens_at 0 runs)
gives_tokens runs all = line_scanned (spaced runs) ∙ scanned 0 runs all

-- ---- the text of each token

-- the text between the places of a token
pub text_of : (line front text rest : List ℕ) (place : ℕ) → line ≡ front ++ (text ++ rest) → place ≡ length front
    → slice_range line place (place + length text) ≡ text
text_of line front text rest place is at =
    let n : place + length text - place ≡ length text = omega arith in
    ap (λ (m : ℕ). take m (drop place line)) n
    ∙ ap (λ (xs : List ℕ). take (length text) xs)
    (ap (λ (xs : List ℕ). drop place xs) is ∙ ap (λ (k : ℕ). drop k (front ++ (text ++ rest))) at
    ∙ drop-append_seam front (text ++ rest))
    ∙ take-append_seam text rest

-- each token is read by its kind and its text
pub each_read : {W : Type 0} (f : TokenKind → List ℕ → W) (line front : List ℕ) (place : ℕ) (runs : List Run)
    → line ≡ front ++ spaced runs → place ≡ length front
    → map (λ t. f t.kind (slice_range line t.start t.end)) (tokens_at place runs) ≡ map (λ run. f run.1 run.0) runs
each_read {W} f line front place [] is at = refl
each_read {W} f line front place (run ∷ []) is at = ap (λ (text : List ℕ). f run.1 text ∷ []) (text_of line front run.0 [] place is at)
each_read {W} f line front place (run ∷ next ∷ runs) is at =
    let longer : front ++ (run.0 ++ 32 ∷ (next.0 ++ after_space runs)) ≡ (front ++ (run.0 ++ 32 ∷ [])) ++ (next.0 ++ after_space runs) =
    simp append_assoc in
    let more = each_read f line (front ++ (run.0 ++ 32 ∷ [])) (place + length run.0 + 1) (next ∷ runs) (is ∙ longer)
    (omega (arith, length-append front (run.0 ++ 32 ∷ []), length-append run.0 (32 ∷ []))) in
    ap (λ (text : List ℕ). f run.1 text ∷ map (λ t. f t.kind (slice_range line t.start t.end))
    (tokens_at (place + length run.0 + 1) (next ∷ runs))) (text_of line front run.0 (after_space (next ∷ runs)) place is at)
    ∙ ap (λ (ws : List W). f run.1 run.0 ∷ ws) more

-- ---- one line

-- a byte that neither ends a line nor is dropped at its end
abbrev pub is_unbroken : ℕ → Bool
is_unbroken b = not (eqb b 10) && not (eqb b 13)

-- such a byte is neither LF nor CR
unbroken : (b : ℕ) → is_unbroken b ≡ true → (eqb b 10 ≡ false) × (eqb b 13 ≡ false)
unbroken b h = let parts = and_parts (not (eqb b 10)) (not (eqb b 13)) h in (not-true (eqb b 10) parts.0, not-true (eqb b 13) parts.1)

-- a line up to its LF is the first piece
pub first_piece : (line rest : List ℕ) → list_all is_unbroken line ≡ true → pieces (line ++ 10 ∷ rest) ≡ line ∷ pieces rest
first_piece [] rest h = refl
first_piece (b ∷ line) rest h =
    let parts = and_parts (is_unbroken b) (list_all is_unbroken line) h in
    let plain = unbroken b parts.0 in
    rw plain.0 (ap (onto_first b) (first_piece line rest parts.1))

-- a line without a CR stays
pub no_cr : (line : List ℕ) → list_all is_unbroken line ≡ true → without_cr line ≡ line
no_cr [] h = refl
no_cr (b ∷ []) h = let plain = unbroken b (and_parts (is_unbroken b) true h).0 in rw plain.1 refl
no_cr (b ∷ c ∷ line) h = ap (λ (l : List ℕ). b ∷ l) (no_cr (c ∷ line) (and_parts (is_unbroken b) (list_all is_unbroken (c ∷ line)) h).1)

-- a run has no LF and no CR
pub run_unbroken : (run : List ℕ) → list_all is_run_byte run ≡ true → list_all is_unbroken run ≡ true
run_unbroken [] h = refl
run_unbroken (b ∷ bs) h =
    let both = and_parts (is_run_byte b) (list_all is_run_byte bs) h in
    both_true (byte b both.0) (run_unbroken bs both.1)
  where
    byte : (b : ℕ) → is_run_byte b ≡ true → is_unbroken b ≡ true
    byte b w = grind arith

-- nor have two texts that have none
pub both_unbroken : (xs ys : List ℕ) → list_all is_unbroken xs ≡ true → list_all is_unbroken ys ≡ true
    → list_all is_unbroken (xs ++ ys) ≡ true
both_unbroken xs ys hx hy = list_all-append is_unbroken xs ys ∙ and_from (list_all is_unbroken xs) (list_all is_unbroken ys) hx hy

-- nor have runs with spaces
after_unbroken : (runs : List Run) → AreRuns runs → list_all is_unbroken (after_space runs) ≡ true
after_unbroken [] all = refl
after_unbroken (run ∷ runs) all = both_unbroken run.0 (after_space runs) (run_unbroken run.0 all.0.plain) (after_unbroken runs all.1)

-- nor has a printed line
spaced_unbroken : (runs : List Run) → AreRuns runs → list_all is_unbroken (spaced runs) ≡ true
spaced_unbroken [] all = refl
spaced_unbroken (run ∷ runs) all = both_unbroken run.0 (after_space runs) (run_unbroken run.0 all.0.plain) (after_unbroken runs all.1)

-- a printed line is the first line of the text that it begins
pub first_line : (runs : List Run) (rest : List ℕ) → AreRuns runs → lines ((spaced runs ++ 10 ∷ []) ++ rest) ≡ spaced runs ∷ lines rest
first_line runs rest all =
    ap lines (append_assoc (spaced runs) (10 ∷ []) rest)
    ∙ ap (map without_cr) (first_piece (spaced runs) rest (spaced_unbroken runs all))
    ∙ ap (λ (l : List ℕ). l ∷ lines rest) (no_cr (spaced runs) (spaced_unbroken runs all))

-- ---- which runs those are

-- digits are bytes of runs
digit_is_plain : (ds : List ℕ) → list_all is_ascii_digit ds ≡ true → list_all is_run_byte ds ≡ true
digit_is_plain [] h = refl
digit_is_plain (d ∷ ds) h =
    let both = and_parts (is_ascii_digit d) (list_all is_ascii_digit ds) h in
    both_true (rw both.0 refl) (digit_is_plain ds both.1)

-- the digits of a number are ASCII digits
all_digits : (ds : List ℕ) → AllDigits 10 ds → list_all is_ascii_digit ds ≡ true
all_digits [] h = refl
all_digits (d ∷ ds) h = both_true (digit_test d h.0) (all_digits ds h.1)
  where
    digit_test : (d : ℕ) → digit_value d < 10 → is_ascii_digit d ≡ true
    digit_test d h = let r = digit_from_value d h in grind (arith, r)

-- the first of them is one
first_is_digit : (ds : List ℕ) → 0 < length ds → list_all is_ascii_digit ds ≡ true → is_ascii_digit (slice_index ds 0) ≡ true
first_is_digit [] some h = absurd (omega arith)
first_is_digit (d ∷ ds) some h = (and_parts (is_ascii_digit d) (list_all is_ascii_digit ds) h).0

-- a printed number is read as that number
pub number_is_run : (n : ℕ) → n < 2 ^ 128 → IsRun (decimal n, Number n)
unfolding run_kind
number_is_run n small =
    let d = decimal_is_IsNumeral_wide n (omega arith) in
    let digits : list_all is_ascii_digit (decimal n) ≡ true = all_digits (decimal n) d.0.1 in
    record {
      some = d.0.0;
      plain = digit_is_plain (decimal n) digits;
      reads = rw (first_is_digit (decimal n) d.0.0 digits, digits, d.1, lt-ltb n (2 ^ 128) small) refl;
    }

-- a name is read as a name
pub name_is_run : (text : List ℕ) → IsName text → IsRun (text, Name)
unfolding run_kind
name_is_run text name = record {
  some = name.some;
  plain = name.plain;
  reads = rw (name.begins, le-ltb 32 (length text) name.short) refl;
}
