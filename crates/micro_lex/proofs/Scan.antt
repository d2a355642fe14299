-- Reading tokens one after the other, past whole runs, gives what the places of the line give.
use Rattle.std.proofs.Common.{◌≡◌, ℕ, suc, ◌+◌, ◌-◌, Bool, true, false, not, ◌&&◌, cond, List, [], ◌∷◌, length, get_or, drop, Option, None, Result, Ok, refl, sym, ap, ◌∙◌, arith, inl, inr}
use Rattle.std.specs.Prelude.{nat_lt, map, take_while, slice_index, if◌then◌else◌}
use Rattle.std.specs.List.{prefix_len, range_with_len}
use Rattle.std.proofs.lemmas.Bool.{cases_Bool, lt-ltb}
use Rattle.std.proofs.lemmas.List.{drop-drop, get_or-drop}
use Rattle.std.proofs.lemmas.List.Sums.{take_while-cons}
use Rattle.std.proofs.lemmas.List.Folds.{length-prefix_len}
use Rattle.micro_lex.specs.declared.token.Token.{Token}
use Rattle.micro_lex.specs.Alphabet.{is_run_byte, is_space, is_hash}
use Rattle.micro_lex.specs.Faults.{Cause, Fault, in_column}
use Rattle.micro_lex.specs.Runs.{run_kind}
use Rattle.micro_lex.specs.Tokens.{code_of, mark_kind, spanned, beginning, reading_at, with_reading, collected, tokens_of}

-- the tokens of what is left of a line from a place on, where the byte before is of a run or is not
unfoldable pub scan : Bool → ℕ → List ℕ → Result (List Token) Fault
scan in_run place [] = Ok []
scan in_run place (b ∷ bs) =
    if is_hash b then Ok []
    else with_reading (if in_run && is_run_byte b then Ok None else in_column (place + 1) (beginning place (b ∷ bs)))
    (scan (is_run_byte b) (place + 1) bs)

-- ---- the places of a line

-- a comment cuts no run
run_in_code : (bs : List ℕ) → take_while is_run_byte (code_of bs) ≡ take_while is_run_byte bs
run_in_code [] = refl
run_in_code (b ∷ bs) = elim (cases_Bool (is_hash b)) [
  | inl h ↦ (let w : is_run_byte b ≡ false = grind arith in rw (h, w) refl)
  | inr h ↦ rw (
    take_while-cons (λ c. not (is_hash c)) b bs,
    h,
    take_while-cons is_run_byte b (code_of bs),
    take_while-cons is_run_byte b bs,
    run_in_code bs,
  ) refl
]

-- a byte before the comment is code
code_goes_on : (b : ℕ) (bs : List ℕ) → is_hash b ≡ false → code_of (b ∷ bs) ≡ b ∷ code_of bs
code_goes_on b bs h = take_while-cons (λ c. not (is_hash c)) b bs ∙ rw h refl

-- from `#` on there is no code
code_ends : (b : ℕ) (bs : List ℕ) → is_hash b ≡ true → code_of (b ∷ bs) ≡ []
code_ends b bs h = take_while-cons (λ c. not (is_hash c)) b bs ∙ rw h refl

-- a run that begins with this byte, with the comment cut off or not
run_goes_on : (b : ℕ) (bs : List ℕ) → take_while is_run_byte (b ∷ code_of bs) ≡ take_while is_run_byte (b ∷ bs)
run_goes_on b bs = take_while-cons is_run_byte b (code_of bs) ∙ ap (λ (r : List ℕ). cond (is_run_byte b) (b ∷ r) []) (run_in_code bs)
    ∙ sym (take_while-cons is_run_byte b bs)

-- what a byte begins is the same with the comment cut off
begins_alike : (place b : ℕ) (bs : List ℕ) → beginning place (b ∷ code_of bs) ≡ beginning place (b ∷ bs)
begins_alike place b bs =
    ap (λ (r : List ℕ). cond (is_space b) (Ok None)
    (cond (is_run_byte b) (spanned place (place + length r) (run_kind r)) (spanned place (place + 1) (mark_kind b))))
    (run_goes_on b bs)

-- the byte at a place
byte_at : (code : List ℕ) (place b : ℕ) (bs : List ℕ) → drop place code ≡ b ∷ bs → get_or code place 0 ≡ b
byte_at code place b bs here =
    ap (λ (k : ℕ). get_or code k 0) (omega arith) ∙ sym (get_or-drop place code 0 0) ∙ ap (λ (xs : List ℕ). get_or xs 0 0) here

-- what stands behind it
rest_at : (code : List ℕ) (place b : ℕ) (bs : List ℕ) → drop place code ≡ b ∷ bs → drop (place + 1) code ≡ bs
rest_at code place b bs here = sym (drop-drop 1 place code) ∙ ap (λ (xs : List ℕ). drop 1 xs) here

-- what a place gives, by the byte there and whether a run goes on
reading_is : (code : List ℕ) (place b : ℕ) (bs : List ℕ) (in_run : Bool) → drop place code ≡ b ∷ code_of bs
    → (nat_lt 0 place && is_run_byte (slice_index code (place - 1))) ≡ in_run
    → reading_at code place ≡ cond (in_run && is_run_byte b) (Ok None) (in_column (place + 1) (beginning place (b ∷ bs)))
reading_is code place b bs in_run here before =
    ap (λ (r : Bool). cond (r && is_run_byte (slice_index code place)) (Ok None)
    (in_column (place + 1) (beginning place (drop place code)))) before
    ∙ ap (λ (c : ℕ). cond (in_run && is_run_byte c) (Ok None) (in_column (place + 1) (beginning place (drop place code))))
    (byte_at code place b (code_of bs) here)
    ∙ ap (λ (xs : List ℕ). cond (in_run && is_run_byte b) (Ok None) (in_column (place + 1) (beginning place xs))) here
    ∙ ap (λ (r : Result (Option Token) Cause). cond (in_run && is_run_byte b) (Ok None) (in_column (place + 1) r))
    (begins_alike place b bs)

-- whether a run goes on at the next place
next_before : (code : List ℕ) (place b : ℕ) (bs : List ℕ) → drop place code ≡ b ∷ bs
    → (nat_lt 0 (place + 1) && is_run_byte (slice_index code (place + 1 - 1))) ≡ is_run_byte b
next_before code place b bs here =
    let some : nat_lt 0 (place + 1) ≡ true = lt-ltb 0 (place + 1) (omega arith) in
    let back : place + 1 - 1 ≡ place = omega arith in
    rw (some, back, byte_at code place b bs here) refl

-- what the places from this one on give is what is found from left to right
pub places_scanned : (code : List ℕ) (place : ℕ) (bs : List ℕ) (in_run : Bool) → drop place code ≡ code_of bs
    → (nat_lt 0 place && is_run_byte (slice_index code (place - 1))) ≡ in_run
    → collected (map (reading_at code) (range_with_len place (length (code_of bs)))) ≡ scan in_run place bs
unfolding scan
places_scanned code place [] in_run here before = refl
places_scanned code place (b ∷ bs) in_run here before = elim (cases_Bool (is_hash b)) [
  | inl h ↦ rw (code_ends b bs h, h) refl
  | inr h ↦
      (let onward : drop place code ≡ b ∷ code_of bs = here ∙ code_goes_on b bs h in
      let more = places_scanned code (place + 1) bs (is_run_byte b) (rest_at code place b (code_of bs) onward)
      (next_before code place b (code_of bs) onward) in
      rw (code_goes_on b bs h, h) (
      ap (λ (r : Result (Option Token) Fault). with_reading r
      (collected (map (reading_at code) (range_with_len (place + 1) (length (code_of bs))))))
      (reading_is code place b bs in_run onward before)
      ∙ ap (with_reading (cond (in_run && is_run_byte b) (Ok None) (in_column (place + 1) (beginning place (b ∷ bs))))) more))
]

-- the tokens of a line are found from left to right
pub line_scanned : (line : List ℕ) → tokens_of line ≡ scan false 0 line
unfolding tokens_of
line_scanned line = places_scanned (code_of line) 0 line false refl refl

-- ---- past runs

-- a front that is one longer, dropped
drop_one_more : (p b : ℕ) (bs : List ℕ) → drop (1 + p) (b ∷ bs) ≡ drop p bs
drop_one_more p b bs = let e : 1 + p ≡ suc p = omega arith in rw e refl

-- at the end there is nothing
pub scan_end : (in_run : Bool) (place : ℕ) → scan in_run place [] ≡ Ok []
unfolding scan
scan_end in_run place = refl

-- a comment gives nothing
pub scan_hash : (in_run : Bool) (place b : ℕ) (bs : List ℕ) → is_hash b ≡ true → scan in_run place (b ∷ bs) ≡ Ok []
unfolding scan
scan_hash in_run place b bs h = rw h refl

-- off a run, a place begins what stands there
pub scan_begins : (place b : ℕ) (bs : List ℕ) → is_hash b ≡ false
    → scan false place (b ∷ bs) ≡ with_reading (in_column (place + 1) (beginning place (b ∷ bs))) (scan (is_run_byte b) (place + 1) bs)
unfolding scan
scan_begins place b bs h = rw h refl

-- a byte within a run gives nothing
scan_inside : (place b : ℕ) (bs : List ℕ) → is_run_byte b ≡ true → scan true place (b ∷ bs) ≡ scan true (place + 1) bs
unfolding scan
scan_inside place b bs w = let h : is_hash b ≡ false = grind arith in rw (h, w) refl

-- a byte off a run begins anew
scan_leaves : (place b : ℕ) (bs : List ℕ) → is_run_byte b ≡ false → scan true place (b ∷ bs) ≡ scan false place (b ∷ bs)
unfolding scan
scan_leaves place b bs w = rw w refl

-- what is left of a run gives no more tokens
pub past_run : (place : ℕ) (bs : List ℕ)
    → scan true place bs ≡ scan false (place + prefix_len is_run_byte bs) (drop (prefix_len is_run_byte bs) bs)
past_run place [] = scan_end true place ∙ sym (scan_end false (place + 0))
past_run place (b ∷ bs) = elim (cases_Bool (is_run_byte b)) [
  | inl w ↦ scan_inside place b bs w ∙ past_run (place + 1) bs
      ∙ rw (w, drop_one_more) (ap (λ (k : ℕ). scan false k (drop (prefix_len is_run_byte bs) bs)) (omega arith))
  | inr w ↦ scan_leaves place b bs w ∙ rw w (ap (λ (k : ℕ). scan false k (b ∷ bs)) (omega arith))
]

-- a run is skipped as a whole
pub past_first_run : (place b : ℕ) (bs : List ℕ) → is_run_byte b ≡ true
    → scan true (place + 1) bs ≡ scan false (place + length (take_while is_run_byte (b ∷ bs)))
    (drop (length (take_while is_run_byte (b ∷ bs))) (b ∷ bs))
past_first_run place b bs w =
    past_run (place + 1) bs
    ∙ rw (length-prefix_len is_run_byte (b ∷ bs), w, drop_one_more)
    (ap (λ (k : ℕ). scan false k (drop (prefix_len is_run_byte bs) bs)) (omega arith))
