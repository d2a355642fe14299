-- One step of the reading of a line: past a space, past a token, or to the faulty place.
use Rattle.std.proofs.Common.{◌≡◌, ℕ, ◌+◌, ◌-◌, ◌≤◌, ◌<◌, Bool, true, false, cond, List, [], ◌∷◌, ◌++◌, All, length, get_or, take, drop, Option, Some, None, Result, Ok, Err, refl, sym, ap, subst, ◌∙◌, append_assoc, add-one, arith, eq-eqb, inl, inr}
use Rattle.std.specs.Prelude.{take_while, slice_range}
use Rattle.std.proofs.Math.Seq.{drop-cons}
use Rattle.std.proofs.lemmas.Bool.{cases_Bool, ne_eqb}
use Rattle.std.proofs.lemmas.List.{append-nil, drop-drop, drop_all, length-drop}
use Rattle.std.proofs.lemmas.List.Elements.{All-push}
use Rattle.std.proofs.lemmas.List.Folds.{length-prefix_len}
use Rattle.std.proofs.lemmas.List.Sums.{prefix_len-le-length, take_while-cons}
use Rattle.micro_lex.specs.declared.token.Token.{Token}
use Rattle.micro_lex.specs.declared.token.TokenKind.{TokenKind}
use Rattle.micro_lex.specs.declared.token.TokenKind.TheVariants.{Name}
use Rattle.micro_lex.specs.declared.fault.LexFault.{LexFault}
use Rattle.micro_lex.specs.declared.fault.LexFault.TheVariants as faults
use Rattle.micro_lex.specs.Alphabet.{is_run_byte, is_space, is_hash}
use Rattle.micro_lex.specs.Faults.{Cause, Fault, in_column, Reports}
use Rattle.micro_lex.specs.Names.{IsName, IsTokenOf}
use Rattle.micro_lex.specs.Reading.{token_at}
use Rattle.micro_lex.specs.Runs.{run_kind}
use Rattle.micro_lex.specs.Tokens.{mark_kind, spanned, beginning, with_front, with_reading, tokens_of}
use Rattle.micro_lex.proofs.NamedRuns.{run_is_name}
use Rattle.micro_lex.proofs.Scan.{scan, scan_begins, scan_hash, scan_end, past_first_run, line_scanned}

-- the byte at a place, and the rest
split : (line : List ℕ) (place : ℕ) → place < length line → drop place line ≡ get_or line place 0 ∷ drop (place + 1) line
split line place lt = rw (add-one, drop-cons line place 0) refl

-- the tokens of a line from a place on, by what begins there
abbrev goes_on : List ℕ → ℕ → Result (Option Token) Fault → Result (List Token) Fault
goes_on line place (Ok None) = scan false (place + 1) (drop (place + 1) line)
goes_on line place (Ok (Some token)) = with_front (token ∷ []) (scan false token.end (drop token.end line))
goes_on line place (Err fault) = Err fault

-- the rest of the line goes on at the end of what was read
reads_on : (line : List ℕ) (place end : ℕ) (kind : Result TokenKind Cause) (others : Result (List Token) Fault)
    → others ≡ scan false end (drop end line)
    → with_reading (in_column (place + 1) (spanned place end kind)) others ≡ goes_on line place
    (in_column (place + 1) (spanned place end kind))
reads_on line place end (Ok kind) others h = ap (with_front (record { kind = kind; start = place; end = end } ∷ [])) h
reads_on line place end (Err cause) others h = refl

-- what a byte begins, by its use
begins_none : (place b : ℕ) (bs : List ℕ) → is_space b ≡ true → beginning place (b ∷ bs) ≡ Ok None
begins_none place b bs s = rw s refl

pub begins_run : (place b : ℕ) (bs : List ℕ) → is_space b ≡ false → is_run_byte b ≡ true
    → beginning place (b ∷ bs) ≡ spanned place (place + length (take_while is_run_byte (b ∷ bs)))
    (run_kind (take_while is_run_byte (b ∷ bs)))
begins_run place b bs s w =
    ap (λ (x : Bool). cond x (Ok None)
    (cond (is_run_byte b)
    (spanned place (place + length (take_while is_run_byte (b ∷ bs))) (run_kind (take_while is_run_byte (b ∷ bs))))
    (spanned place (place + 1) (mark_kind b)))) s
    ∙ ap (λ (x : Bool). cond x
    (spanned place (place + length (take_while is_run_byte (b ∷ bs))) (run_kind (take_while is_run_byte (b ∷ bs))))
    (spanned place (place + 1) (mark_kind b))) w

begins_mark : (place b : ℕ) (bs : List ℕ) → is_space b ≡ false → is_run_byte b ≡ false
    → beginning place (b ∷ bs) ≡ spanned place (place + 1) (mark_kind b)
begins_mark place b bs s w =
    ap (λ (x : Bool). cond x (Ok None)
    (cond (is_run_byte b)
    (spanned place (place + length (take_while is_run_byte (b ∷ bs))) (run_kind (take_while is_run_byte (b ∷ bs))))
    (spanned place (place + 1) (mark_kind b)))) s
    ∙ ap (λ (x : Bool). cond x
    (spanned place (place + length (take_while is_run_byte (b ∷ bs))) (run_kind (take_while is_run_byte (b ∷ bs))))
    (spanned place (place + 1) (mark_kind b))) w

-- a step over what is read up to this end
step_to : (line : List ℕ) (place b : ℕ) (bs : List ℕ) (end : ℕ) (kind : Result TokenKind Cause)
    → beginning place (b ∷ bs) ≡ spanned place end kind → scan (is_run_byte b) (place + 1) bs ≡ scan false end (drop end line)
    → with_reading (in_column (place + 1) (beginning place (b ∷ bs))) (scan (is_run_byte b) (place + 1) bs) ≡ goes_on line place
    (in_column (place + 1) (beginning place (b ∷ bs)))
step_to line place b bs end kind reading others =
    ap (λ (r : Result (Option Token) Cause). with_reading (in_column (place + 1) r) (scan (is_run_byte b) (place + 1) bs)) reading
    ∙ reads_on line place end kind (scan (is_run_byte b) (place + 1) bs) others
    ∙ ap (λ (r : Result (Option Token) Cause). goes_on line place (in_column (place + 1) r)) (sym reading)

-- one step, over the bytes that are left
step_over : (line : List ℕ) (place b : ℕ) (bs : List ℕ) → drop place line ≡ b ∷ bs → drop (place + 1) line ≡ bs → is_hash b ≡ false
    → scan false place (b ∷ bs) ≡ goes_on line place (in_column (place + 1) (beginning place (b ∷ bs)))
step_over line place b bs here onward h = scan_begins place b bs h ∙ elim (cases_Bool (is_space b)) [
  | inl s ↦ (let w : is_run_byte b ≡ false = grind arith in rw (s, w, onward) refl)
  | inr s ↦ elim (cases_Bool (is_run_byte b)) [
    | inl w ↦
        (let run : List ℕ = take_while is_run_byte (b ∷ bs) in
        let rest : drop (length run) (b ∷ bs) ≡ drop (place + length run) line = ap (drop (length run)) (sym here)
        ∙ drop-drop (length run) place line in
        step_to line place b bs (place + length run) (run_kind run) (begins_run place b bs s w)
        (ap (λ (r : Bool). scan r (place + 1) bs) w ∙ past_first_run place b bs w ∙ ap (scan false (place + length run)) rest))
    | inr w ↦ step_to line place b bs (place + 1) (mark_kind b) (begins_mark place b bs s w)
        (ap (λ (r : Bool). scan r (place + 1) bs) w ∙ ap (scan false (place + 1)) (sym onward))
  ]
]

-- one step of the reading
step : (line : List ℕ) (place : ℕ) (found : Result (Option Token) Fault) → place < length line → (get_or line place 0 ≡ 35 → ⊥)
    → token_at line place ≡ found
    → scan false place (drop place line) ≡ goes_on line place found
unfolding token_at
step line place found lt h e =
    ap (scan false place) (split line place lt)
    ∙ step_over line place (get_or line place 0) (drop (place + 1) line) (split line place lt) refl (ne_eqb (get_or line place 0) 35 h)
    ∙ ap (λ (xs : List ℕ). goes_on line place (in_column (place + 1) (beginning place xs))) (sym (split line place lt))
    ∙ ap (goes_on line place) e

abbrev found_tokens : List Token → Result (List Token) Fault
found_tokens found = Ok found

-- one token more at the front of the others
regroup : (front : List Token) (token : Token) (others : Result (List Token) Fault)
    → with_front front (with_front (token ∷ []) others) ≡ with_front (front ++ token ∷ []) others
regroup front token (Ok others) = ap found_tokens (sym (append_assoc front (token ∷ []) others))
regroup front token (Err fault) = refl

-- no further tokens
ended : (front : List Token) → with_front front (Ok []) ≡ Ok front
ended front = ap found_tokens (append-nil front)

-- no tokens before the others
with_nothing : (others : Result (List Token) Fault) → with_front [] others ≡ others
with_nothing (Ok others) = refl
with_nothing (Err fault) = refl

-- at the start nothing is found and the whole line is left
pub begun : (line : List ℕ) → with_front [] (scan false 0 line) ≡ tokens_of line
begun line = with_nothing (scan false 0 line) ∙ sym (line_scanned line)

-- ---- the steps of the loop, which keep what the whole line gives

-- past a space
pub over_gap : (front : List Token) (line : List ℕ) (place : ℕ) (total : Result (List Token) Fault) → place < length line
    → (get_or line place 0 ≡ 35 → ⊥) → token_at line place ≡ Ok None
    → with_front front (scan false place (drop place line)) ≡ total
    → with_front front (scan false (place + 1) (drop (place + 1) line)) ≡ total
over_gap front line place total lt h e so_far = ap (with_front front) (sym (step line place (Ok None) lt h e)) ∙ so_far

-- past a token
pub over_token : (front : List Token) (line : List ℕ) (place : ℕ) (token : Token) (total : Result (List Token) Fault)
    → place < length line → (get_or line place 0 ≡ 35 → ⊥) → token_at line place ≡ Ok (Some token)
    → with_front front (scan false place (drop place line)) ≡ total
    → with_front (front ++ token ∷ []) (scan false token.end (drop token.end line)) ≡ total
over_token front line place token total lt h e so_far =
    sym (regroup front token (scan false token.end (drop token.end line)))
    ∙ ap (with_front front) (sym (step line place (Ok (Some token)) lt h e)) ∙ so_far

-- a fault at a place is the line's
same_fault : (fault : LexFault) (reading : Result (Option Token) Fault) (total : Result (List Token) Fault)
    → ((found : Fault) → reading ≡ Err found → total ≡ Err found) → Reports fault reading → Reports fault total
same_fault faults.OutOfMemory reading total same r = tt
same_fault (faults.BadByte column) reading total same r = same _ r
same_fault (faults.BadNumber column) reading total same r = same _ r
same_fault (faults.NumberTooWide column) reading total same r = same _ r
same_fault (faults.NameTooLong column) reading total same r = same _ r

-- at a fault
pub at_fault : (front : List Token) (line : List ℕ) (place : ℕ) (fault : LexFault) (total : Result (List Token) Fault)
    → place < length line → (get_or line place 0 ≡ 35 → ⊥)
    → with_front front (scan false place (drop place line)) ≡ total → Reports fault (token_at line place) → Reports fault total
at_fault front line place fault total lt h so_far r =
    same_fault fault (token_at line place) total (λ found e. sym so_far ∙ ap (with_front front) (step line place (Err found) lt h e)) r

-- at the line's end
pub is_done : (front : List Token) (line : List ℕ) (place : ℕ) (total : Result (List Token) Fault) → length line ≤ place
    → with_front front (scan false place (drop place line)) ≡ total → total ≡ Ok front
is_done front line place total le so_far =
    sym so_far ∙ ap (with_front front) (ap (scan false place) (drop_all place line le) ∙ scan_end false place) ∙ ended front

-- at the comment
pub is_cut : (front : List Token) (line : List ℕ) (place : ℕ) (total : Result (List Token) Fault) → place < length line
    → get_or line place 0 ≡ 35 → with_front front (scan false place (drop place line)) ≡ total → total ≡ Ok front
is_cut front line place total lt h so_far =
    sym so_far ∙ ap (with_front front)
    (ap (scan false place) (split line place lt)
    ∙ scan_hash false place (get_or line place 0) (drop (place + 1) line) (eq-eqb (get_or line place 0) 35 h)) ∙ ended front

-- ---- where a token lies

-- a token of the line that lasts beyond this place
pub record IsTokenAt (line : List ℕ) (place : ℕ) (token : Token) : Type 0 where
  pub lies : IsTokenOf line token
  pub goes_on : place < token.end

abbrev as_kind : TokenKind → Result TokenKind Cause
as_kind kind = Ok kind

-- a token between these places lies there
made_token : (line : List ℕ) (place end : ℕ) (kind : Result TokenKind Cause) (token : Token) → place < end → end ≤ length line
    → (kind ≡ Ok Name → IsName (slice_range line place end))
    → in_column (place + 1) (spanned place end kind) ≡ Ok (Some token) → IsTokenAt line place token
made_token line place end (Ok kind) token lt le named e =
    let same : record { kind = kind; start = place; end = end } ≡ token = cc in
    subst (λ (t : Token). IsTokenAt line place t) same
    (record { lies = record { ordered = omega arith; within = le; named = λ n. named (ap as_kind n) }; goes_on = lt })
made_token line place end (Err cause) token lt le named e = absurd cc

-- a space begins no token
none_is_none : (token : Token) → (let r : Result (Option Token) Fault = Ok None in r ≡ Ok (Some token)) → ⊥
none_is_none token e = cc

-- no mark is a name
mark_names_nothing : (b : ℕ) → mark_kind b ≡ Ok Name → ⊥
mark_names_nothing b e = grind arith

-- a run has a byte at least
run_some : (b : ℕ) (bs : List ℕ) → is_run_byte b ≡ true → 0 < length (take_while is_run_byte (b ∷ bs))
run_some b bs w = rw (take_while-cons is_run_byte b bs, w) (omega arith)

-- a token that begins at a place is one of the line
pub token_lies : (line : List ℕ) (place : ℕ) (token : Token) → place < length line → token_at line place ≡ Ok (Some token)
    → IsTokenAt line place token
unfolding token_at
token_lies line place token lt e =
    let b : ℕ = get_or line place 0 in
    let bs : List ℕ = drop (place + 1) line in
    let is : in_column (place + 1) (beginning place (b ∷ bs)) ≡ Ok (Some token) =
    ap (λ (xs : List ℕ). in_column (place + 1) (beginning place xs)) (sym (split line place lt)) ∙ e in
    elim (cases_Bool (is_space b)) [
      | inl s ↦ absurd (none_is_none token (ap (in_column (place + 1)) (sym (begins_none place b bs s)) ∙ is))
      | inr s ↦ elim (cases_Bool (is_run_byte b)) [
        | inl w ↦
            (let run : List ℕ = take_while is_run_byte (b ∷ bs) in
            let some : 0 < length run = run_some b bs w in
            let fits : length run ≤ length (b ∷ bs) =
            omega (arith, length-prefix_len is_run_byte (b ∷ bs), prefix_len-le-length is_run_byte (b ∷ bs)) in
            let whole : length (b ∷ bs) ≡ length line - place = ap length (sym (split line place lt)) ∙ length-drop place line in
            let text : slice_range line place (place + length run) ≡ run =
            ap (λ (n : ℕ). take n (drop place line)) (omega arith) ∙ ap (λ (xs : List ℕ). take (length run) xs) (split line place lt)
            ∙ ap (λ (n : ℕ). take n (b ∷ bs)) (length-prefix_len is_run_byte (b ∷ bs)) in
            made_token line place (place + length run) (run_kind run) token (omega arith) (omega arith)
            (λ n. subst (λ (xs : List ℕ). IsName xs) (sym text) (run_is_name (b ∷ bs) some n))
            (ap (in_column (place + 1)) (sym (begins_run place b bs s w)) ∙ is))
        | inr w ↦ made_token line place (place + 1) (mark_kind b) token (omega arith) (omega arith) (λ n. absurd (mark_names_nothing b n))
            (ap (in_column (place + 1)) (sym (begins_mark place b bs s w)) ∙ is)
      ]
    ]

-- one token more lies in the line
pub spans_push : (line : List ℕ) (front : List Token) (token : Token) → All (IsTokenOf line) front → IsTokenOf line token
    → All (IsTokenOf line) (front ++ token ∷ [])
spans_push line front token old new = All-push (IsTokenOf line) front token old new
