-- What the grammar allows of a text is its reading, and nothing else.

use Rattle.std.proofs.Common.{◌≡◌, ◌≢◌, ℕ, zero, suc, ◌+◌, ◌*◌, ◌/◌, ◌%◌, ◌^◌, ◌<◌, ◌≤◌, ◌==◌, nat_lt, List, [], ◌∷◌, ◌++◌, length, Some, None, Result, Ok, Err, true, false, if◌then◌else◌, ◌⊎◌, inl, inr, refl, sym, ap, ◌∙◌, append_assoc, length-append, arith}
use Rattle.std.specs.List.{All}
use Rattle.std.proofs.lemmas.List.{append-nil}
use Rattle.std.proofs.lemmas.List.Elements.{All-head, All-tail}
use Rattle.std.proofs.lemmas.Bool.{cases_Bool, ltb-true, ltb-false, lt-ltb, le-ltb, eq-eqb, ne_eqb}
use Rattle.std.proofs.lemmas.Grind.{pow_more}
use Rattle.bpnf.specs.declared.fault.BpnfFault.{BpnfFault}
use Rattle.bpnf.specs.declared.fault.BpnfFault.TheVariants.{BadLetter, CutWord, TooFew, TooMany, OutOfMemory}
use Rattle.bpnf.specs.declared.frame.OpenFrame.{OpenFrame}
use Rattle.bpnf.specs.FirstFault.{Reads, IsInside, HasBadLetter}
use Rattle.bpnf.specs.Frames.{IsComment, letter, IsLetter, letters_of, frame, Shows}
use Rattle.bpnf.specs.Reading.{bit_of, run, reading}
use Rattle.bpnf.proofs.LetterLaws.{letters_of-last, length-letters_of, letters_of_are}

-- the answer that is this fault
abbrev fault_is : BpnfFault → Result (List ℕ) BpnfFault
fault_is fault = Err fault

-- the reading from a state outside a frame, and from one inside
abbrev run_outside : ℕ → ℕ → ℕ → List ℕ → List ℕ → Result (List ℕ) BpnfFault
run_outside bits count position words text = run bits count position (record { words = words; begun = None }) text

abbrev run_inside : ℕ → ℕ → ℕ → List ℕ → OpenFrame → List ℕ → Result (List ℕ) BpnfFault
run_inside bits count position words frame text = run bits count position (record {
  words =
      words;
  begun = Some frame;
}) text

-- a comment brings nothing
run_comment : (bits count position : ℕ) (words comment rest : List ℕ) → IsComment comment →
    run_outside bits count position words (comment ++ rest) ≡
    run_outside bits count (position + length comment) words rest
unfolding run
run_comment bits count position words [] rest is = ap (λ (p : ℕ). run_outside bits count p words rest) (omega arith)
run_comment bits count position words (byte ∷ comment) rest is =
    let other : (byte == 66) ≡ false = ne_eqb byte 66 (All-head (λ (b : ℕ). b ≢ 66) byte comment is) in
    let step : run_outside bits count position words (byte ∷ (comment ++ rest)) ≡
    run_outside bits count (position + 1) words (comment ++ rest) = rw other refl in
    step ∙ run_comment bits count (position + 1) words comment rest (All-tail (λ (b : ℕ). b ≢ 66) byte comment is) ∙
    ap (λ (p : ℕ). run_outside bits count p words rest) (omega arith)

-- the bit of a letter
abbrev value : ℕ → ℕ
value byte = if byte == 80 then 1 else 0

-- the number that letters spell after a number
abbrev spelled : ℕ → List ℕ → ℕ
spelled word [] = word
spelled word (byte ∷ bytes) = spelled (word * 2 + value byte) bytes

-- letters spell one after another
spelled-append : (word : ℕ) (xs ys : List ℕ) → spelled word (xs ++ ys) ≡ spelled (spelled word xs) ys
spelled-append word [] ys = refl
spelled-append word (x ∷ xs) ys = spelled-append (word * 2 + value x) xs ys

-- a bit's letter has its value
value-letter : (bit : ℕ) → bit < 2 → value (letter bit) ≡ bit
value-letter zero lt = refl
value-letter (suc zero) lt = refl
value-letter (suc (suc bit)) lt = absurd (omega arith)

-- the letters of a word spell it
spelled-letters : (n word : ℕ) → word < 2 ^ n → spelled 0 (letters_of n word) ≡ word
unfolding letters_of
spelled-letters zero word lt = omega (arith, lt)
spelled-letters (suc n) word lt =
    let power : 2 ^ suc n ≡ 2 ^ n * 2 = ap (λ (k : ℕ). 2 ^ k) (omega arith) ∙ pow_more 2 n in
    let half : word / 2 < 2 ^ n = omega (arith, power, lt) in
    ap (λ t. spelled 0 t) (letters_of-last n word) ∙
    spelled-append 0 (letters_of n (word / 2)) (letter (word % 2) ∷ []) ∙
    ap (λ (w : ℕ). w * 2 + value (letter (word % 2))) (spelled-letters n (word / 2) half) ∙
    ap (λ (b : ℕ). word / 2 * 2 + b) (value-letter (word % 2) (omega arith)) ∙
    omega arith

-- a frame that is begun
abbrev begun_frame : ℕ → ℕ → ℕ → OpenFrame
begun_frame start letters word = record { start = start; letters = letters; word = word }

-- a frame with more letters
abbrev with_letters : OpenFrame → List ℕ → OpenFrame
with_letters frame taken = begun_frame frame.start (frame.letters + length taken) (spelled frame.word taken)

-- a letter is read as its value
bit_of_value : (byte : ℕ) → IsLetter byte → bit_of byte ≡ Some (value byte)
bit_of_value byte (inl p) = rw (eq-eqb byte 80 p) refl
bit_of_value byte (inr n) = rw (ne_eqb byte 80 (omega arith), eq-eqb byte 78 n) refl

-- letters of a frame are read one after another
run_letters : (bits count position : ℕ) (words : List ℕ) (frame : OpenFrame) (taken rest : List ℕ) →
    All IsLetter taken → frame.letters + length taken ≤ bits →
    run_inside bits count position words frame (taken ++ rest) ≡
    run_inside bits count (position + length taken) words (with_letters frame taken) rest
unfolding run
run_letters bits count position words frame [] rest are fit =
    ap (λ (p : ℕ). run_inside bits count p words frame rest) (omega arith)
    ∙ ap (λ (n : ℕ). run_inside bits count (position + 0) words (begun_frame frame.start n frame.word) rest) (omega arith)
run_letters bits count position words frame (byte ∷ taken) rest are fit =
    let room : nat_lt frame.letters bits ≡ true = lt-ltb frame.letters bits (omega (arith, fit)) in
    let bit : bit_of byte ≡ Some (value byte) = bit_of_value byte (All-head IsLetter byte taken are) in
    let step : run_inside bits count position words frame (byte ∷ (taken ++ rest)) ≡
    run_inside bits count (position + 1) words (with_letters frame (byte ∷ [])) (taken ++ rest) =
    rw (room, bit) refl in
    step ∙
    run_letters bits count (position + 1) words (with_letters frame (byte ∷ [])) taken rest (All-tail IsLetter byte taken are)
    (omega (arith, fit)) ∙
    ap (λ (p : ℕ). run_inside bits count p words (with_letters (with_letters frame (byte ∷ [])) taken) rest) (omega arith) ∙
    ap (λ (n : ℕ). run_inside bits count (position + length (byte ∷ taken)) words
    (begun_frame frame.start n (spelled frame.word (byte ∷ taken))) rest) (omega arith)

-- a frame of which the `B` alone is read
abbrev begun_at : ℕ → OpenFrame
begun_at position = begun_frame position 0 0

-- a `B` where there is room for a word
run_begin : (bits count position : ℕ) (words rest : List ℕ) → length words < count →
    run_outside bits count position words (66 ∷ rest) ≡
    run_inside bits count (position + 1) words (begun_at position) rest
unfolding run
run_begin bits count position words rest few = rw (lt-ltb (length words) count few) refl

-- a whole frame brings its word
run_frame : (bits count position : ℕ) (words : List ℕ) (word : ℕ) (rest : List ℕ) → length words < count →
    word < 2 ^ bits →
    run_outside bits count position words (frame bits word ++ rest) ≡
    run_outside bits count (position + length (frame bits word)) (words ++ word ∷ []) rest
unfolding run
run_frame bits count position words word rest few fits =
    let many : length (letters_of bits word) ≡ bits = length-letters_of bits word in
    let whole : nat_lt (0 + length (letters_of bits word)) bits ≡ false =
    le-ltb (0 + length (letters_of bits word)) bits (omega (arith, many)) in
    let length_is : length (frame bits word) ≡ length (letters_of bits word) + 2 =
    omega (arith, length-append (letters_of bits word) (70 ∷ [])) in
    run_begin bits count position words ((letters_of bits word ++ 70 ∷ []) ++ rest) few ∙
    ap (λ t. run_inside bits count (position + 1) words (begun_at position) t) (append_assoc (letters_of bits word) (70 ∷ []) rest) ∙
    run_letters bits count (position + 1) words (begun_at position) (letters_of bits word) (70 ∷ rest) (letters_of_are bits word)
    (omega (arith, many)) ∙
    rw whole refl ∙
    ap (λ (w : ℕ). run_outside bits count (position + 1 + length (letters_of bits word) + 1) (words ++ w ∷ []) rest)
    (spelled-letters bits word fits) ∙
    ap (λ (p : ℕ). run_outside bits count p (words ++ word ∷ []) rest) (omega (arith, length_is))

-- whole frames and comments bring their words
run_shown : (bits count position : ℕ) (before words front rest : List ℕ) → Shows bits words front →
    length before + length words ≤ count →
    run_outside bits count position before (front ++ rest) ≡
    run_outside bits count (position + length front) (before ++ words) rest
unfolding Shows
run_shown bits count position before [] front rest shown few =
    run_comment bits count position before front rest shown ∙
    ap (λ ws. run_outside bits count (position + length front) ws rest) (sym (append-nil before))
run_shown bits count position before (word ∷ words) front rest shown few =
    let comment = shown.1.comment in
    let text : front ++ rest ≡ comment ++ (frame bits word ++ (shown.0 ++ rest)) =
    ap (λ t. t ++ rest) shown.1.text_is ∙ append_assoc comment (frame bits word ++ shown.0) rest ∙
    ap (λ t. comment ++ t) (append_assoc (frame bits word) shown.0 rest) in
    let length_is : length front ≡ length comment + (length (frame bits word) + length shown.0) =
    ap length shown.1.text_is ∙ length-append comment (frame bits word ++ shown.0) ∙
    ap (λ (n : ℕ). length comment + n) (length-append (frame bits word) shown.0) in
    ap (λ t. run_outside bits count position before t) text ∙
    run_comment bits count position before comment (frame bits word ++ (shown.0 ++ rest)) shown.1.before ∙
    run_frame bits count (position + length comment) before word (shown.0 ++ rest) (omega (arith, few)) shown.1.fits ∙
    run_shown bits count (position + length comment + length (frame bits word)) (before ++ word ∷ []) words shown.0 rest shown.2
    (omega (arith, few, length-append before (word ∷ []))) ∙
    ap (λ (p : ℕ). run_outside bits count p ((before ++ word ∷ []) ++ words) rest) (omega (arith, length_is)) ∙
    ap (λ ws. run_outside bits count (position + length front) ws rest) (append_assoc before (word ∷ []) words)

-- a text that begins with whole frames and comments
reading_after : (bits count : ℕ) (words front rest text : List ℕ) → Shows bits words front → length words ≤ count →
    text ≡ front ++ rest →
    reading bits count text ≡ run_outside bits count (length front) words rest
reading_after bits count words front rest text shown few is =
    ap (λ t. reading bits count t) is ∙ run_shown bits count 0 [] words front rest shown (omega (arith, few)) ∙
    ap (λ (p : ℕ). run_outside bits count p words rest) (omega arith)

-- and with letters of one frame more
reading_inside : (bits count : ℕ) (front taken rest text : List ℕ) → (is : IsInside bits count front taken rest text) →
    reading bits count text ≡
    run_inside bits count (length front + 1 + length taken) is.before.words (with_letters (begun_at (length front)) taken) rest
reading_inside bits count front taken rest text is =
    let few : length is.before.words < count = omega (arith, is.few, is.before.counted) in
    reading_after bits count is.before.words front (66 ∷ (taken ++ rest)) text is.before.shown (omega (arith, few)) is.text_is ∙
    run_begin bits count (length front) is.before.words (taken ++ rest) few ∙
    run_letters bits count (length front + 1) is.before.words (begun_at (length front)) taken rest is.letters (omega (arith, is.short))

-- no other byte is read as a letter
bit_of_other : (byte : ℕ) → (IsLetter byte → ⊥) → bit_of byte ≡ None
bit_of_other byte other = rw (ne_eqb byte 80 (λ e. other (inl e)), ne_eqb byte 78 (λ e. other (inr e))) refl

-- the first fault is a wrong byte inside a frame
only_bad_letter : (bits count : ℕ) (text : List ℕ) (position : ℕ) → HasBadLetter bits count text position →
    reading bits count text ≡ Err (BadLetter position)
unfolding run
only_bad_letter bits count text position bad =
    reading_inside bits count bad.front bad.letters (bad.byte ∷ bad.rest) text bad.inside ∙
    refused (cases_Bool (nat_lt (0 + length bad.letters) bits)) ∙
    ap (λ (p : ℕ). fault_is (BadLetter p)) (sym bad.position_is)
  where
    refused : (nat_lt (0 + length bad.letters) bits ≡ true) ⊎ (nat_lt (0 + length bad.letters) bits ≡ false) →
        run_inside bits count (length bad.front + 1 + length bad.letters) bad.inside.before.words
        (with_letters (begun_at (length bad.front)) bad.letters) (bad.byte ∷ bad.rest)
        ≡ Err (BadLetter (length bad.front + 1 + length bad.letters))
    refused (inl lt) =
        let other : bit_of bad.byte ≡ None =
        bit_of_other bad.byte (bad.no_letter (omega (arith, ltb-true (0 + length bad.letters) bits lt))) in
        rw (lt, other) refl
    refused (inr ge) =
        let other : (bad.byte == 70) ≡ false =
        ne_eqb bad.byte 70 (bad.no_end (omega (arith, bad.inside.short, ltb-false (0 + length bad.letters) bits ge))) in
        rw (ge, other) refl

-- an answer that the grammar allows is the reading
pub only_reading : (bits count : ℕ) (text : List ℕ) (answer : Result (List ℕ) BpnfFault) →
    Reads bits count text answer → answer ≡ reading bits count text
unfolding run
only_reading bits count text (Ok words) reads =
    sym (reading_after bits count words text [] text reads.0 (omega (arith, reads.1)) (sym (append-nil text)) ∙
    rw (le-ltb (length words) count (omega (arith, reads.1))) refl)
only_reading bits count text (Err (BadLetter position)) bad = sym (only_bad_letter bits count text position bad)
only_reading bits count text (Err (CutWord position)) cut =
    sym (reading_inside bits count cut.front cut.letters [] text cut.inside ∙
    ap (λ (p : ℕ). fault_is (CutWord p)) (sym cut.position_is))
only_reading bits count text (Err (TooFew frames)) short =
    let words = short.whole.words in
    sym (reading_after bits count words text [] text short.whole.shown (omega (arith, short.few, short.whole.counted))
    (sym (append-nil text)) ∙
    rw (lt-ltb (length words) count (omega (arith, short.few, short.whole.counted))) refl ∙
    ap (λ (n : ℕ). fault_is (TooFew n)) short.whole.counted)
only_reading bits count text (Err (TooMany position)) surplus =
    let words = surplus.before.words in
    sym (reading_after bits count words surplus.front (66 ∷ surplus.rest) text surplus.before.shown
    (omega (arith, surplus.before.counted)) surplus.text_is ∙
    rw (le-ltb (length words) count (omega (arith, surplus.before.counted))) refl ∙
    ap (λ (p : ℕ). fault_is (TooMany p)) (sym surplus.position_is))
only_reading bits count text (Err OutOfMemory) never = absurd never
