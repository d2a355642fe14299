-- The reading of a text is one that the grammar allows.

use Rattle.std.proofs.Common.{◌≡◌, ◌≢◌, ℕ, suc, ◌+◌, ◌*◌, ◌^◌, ◌<◌, ◌≤◌, ◌==◌, nat_lt, List, [], ◌∷◌, ◌++◌, length, Option, Some, None, Result, Ok, Err, refl, sym, ap, subst, ◌∙◌, inl, inr, append_assoc, length-append, arith}
use Rattle.std.proofs.lemmas.List.{append-nil}
use Rattle.std.proofs.lemmas.Bool.{cases_Bool, ltb-true, ltb-false, eqb-true, eqb-false}
use Rattle.std.proofs.lemmas.Grind.{pow_more}
use Rattle.std.proofs.lemmas.List.Elements.{All-nil}
use Rattle.bpnf.specs.declared.fault.BpnfFault.{BpnfFault}
use Rattle.bpnf.specs.declared.fault.BpnfFault.TheVariants.{BadLetter}
use Rattle.bpnf.specs.declared.frame.OpenFrame.{OpenFrame}
use Rattle.bpnf.specs.FirstFault.{Reads}
use Rattle.bpnf.specs.Frames.{letter, IsLetter, letters_of, frame, Shows}
use Rattle.bpnf.specs.Reading.{State, first, bit_of, at_begin, outside, with_letter, still, inside, at_byte, at_end, and_then, run, reading}
use Rattle.bpnf.proofs.LetterLaws.{letters_of-more, length-letters_of, letters_of_are}
use Rattle.bpnf.proofs.GrammarLaws.{shows_comment, shows_frame}

-- whole frames and comments, then a frame that is begun
record IsBegun (bits count : ℕ) (front words : List ℕ) (frame : OpenFrame) : Type 0 where
  pub before : List ℕ
  pub shown : Shows bits words before
  pub few : length words < count
  pub fits : frame.word < 2 ^ frame.letters
  pub short : frame.letters ≤ bits
  pub start_is : frame.start ≡ length before
  pub front_is : front ≡ before ++ 66 ∷ letters_of frame.letters frame.word

-- the bytes so far are `front`, and this is what they brought
abbrev StandsAfter : ℕ → ℕ → List ℕ → List ℕ → Option OpenFrame → Type 0
StandsAfter bits count front words None = Shows bits words front × (length words ≤ count)
StandsAfter bits count front words (Some frame) = IsBegun bits count front words frame

-- what the next byte brings: a state that stands after it, or the first fault whatever follows
abbrev StandsAfterByte : ℕ → ℕ → List ℕ → ℕ → Result State BpnfFault → Type 0
StandsAfterByte bits count front byte (Ok state) = StandsAfter bits count (front ++ byte ∷ []) state.words state.begun
StandsAfterByte bits count front byte (Err fault) = (rest : List ℕ) →
    Reads bits count (front ++ byte ∷ rest) (Err fault)

-- after a `B` outside a frame
begins_frame : (bits count position : ℕ) (front words : List ℕ) (byte : ℕ) → Shows bits words front →
    length words ≤ count → position ≡ length front → byte ≡ 66 →
    StandsAfterByte bits count front byte (at_begin count position words)
unfolding letters_of
begins_frame bits count position front words byte shown few at is = elim (cases_Bool (nat_lt (length words) count)) [
  | inl lt ↦ rw lt (record {
    before = front;
    shown = shown;
    few = ltb-true (length words) count lt;
    fits = omega arith;
    short = omega arith;
    start_is = at;
    front_is = ap (λ (b : ℕ). front ++ b ∷ []) is;
  })
  | inr ge ↦ rw ge (λ rest. record {
    front = front;
    rest = rest;
    before = record { words = words; shown = shown; counted = all_are (ltb-false (length words) count ge) };
    text_is = ap (λ (b : ℕ). front ++ b ∷ rest) is;
    position_is = at;
  })
]
  where
    all_are : count ≤ length words → length words ≡ count
    all_are ge = omega arith

-- after a byte outside a frame
outside_stands : (bits count position : ℕ) (front words : List ℕ) (byte : ℕ) → Shows bits words front →
    length words ≤ count → position ≡ length front →
    StandsAfterByte bits count front byte (outside count position words byte)
outside_stands bits count position front words byte shown few at = elim (cases_Bool (byte == 66)) [
  | inl is ↦ rw is (begins_frame bits count position front words byte shown few at (eqb-true byte 66 is))
  | inr other ↦ rw other (shows_comment bits words front byte shown (eqb-false byte 66 other), few)
]

-- a byte that should be a letter, or should be `F`, and is not
bad_letter : (bits count position : ℕ) (front words : List ℕ) (frame : OpenFrame) (byte : ℕ) →
    IsBegun bits count front words frame → position ≡ length front →
    (frame.letters < bits → IsLetter byte → ⊥) → (frame.letters ≡ bits → byte ≢ 70) → (rest : List ℕ) →
    Reads bits count (front ++ byte ∷ rest) (Err (BadLetter position))
bad_letter bits count position front words frame byte begun at no_letter no_end rest =
    let many : length (letters_of frame.letters frame.word) ≡ frame.letters =
    length-letters_of frame.letters frame.word in
    let whole : length front ≡ length begun.before + suc (length (letters_of frame.letters frame.word)) =
    ap length begun.front_is ∙ length-append begun.before (66 ∷ letters_of frame.letters frame.word) in
    record {
      front = begun.before;
      letters = letters_of frame.letters frame.word;
      byte = byte;
      rest = rest;
      inside = record {
        frames = length words;
        few = begun.few;
        before = record { words = words; shown = begun.shown; counted = refl };
        letters = letters_of_are frame.letters frame.word;
        short = omega (arith, many, begun.short);
        text_is = ap (λ t. t ++ byte ∷ rest) begun.front_is ∙
            append_assoc begun.before (66 ∷ letters_of frame.letters frame.word) (byte ∷ rest);
      };
      no_letter = λ lt. no_letter (omega (arith, many, lt));
      no_end = λ e. no_end (omega (arith, many, e));
      position_is = omega (arith, many, whole, at);
    }

-- one letter more
with_bit : (bits count : ℕ) (front words : List ℕ) (frame : OpenFrame) (byte bit : ℕ) →
    IsBegun bits count front words frame → frame.letters < bits → bit < 2 → byte ≡ letter bit →
    IsBegun bits count (front ++ byte ∷ []) words (record {
      start = frame.start;
      letters = frame.letters + 1;
      word =
          frame.word * 2 + bit;
    })
with_bit bits count front words frame byte bit begun room lt is =
    let more : letters_of (frame.letters + 1) (frame.word * 2 + bit) ≡ letters_of frame.letters frame.word ++ letter bit ∷ [] =
    ap (λ (n : ℕ). letters_of n (frame.word * 2 + bit)) (omega arith) ∙
    letters_of-more frame.letters frame.word bit lt in
    record {
      before = begun.before;
      shown = begun.shown;
      few = begun.few;
      fits = rw (pow_more 2 frame.letters) (omega (arith, begun.fits));
      short = omega arith;
      start_is = begun.start_is;
      front_is = ap (λ t. t ++ byte ∷ []) begun.front_is ∙
          append_assoc begun.before (66 ∷ letters_of frame.letters frame.word) (byte ∷ []) ∙
          ap (λ (b : ℕ). begun.before ++ 66 ∷ (letters_of frame.letters frame.word ++ b ∷ [])) is ∙
          ap (λ t. begun.before ++ 66 ∷ t) (sym more);
    }

-- after a byte that should be a letter
letter_stands : (bits count position : ℕ) (front words : List ℕ) (frame : OpenFrame) (byte : ℕ) →
    IsBegun bits count front words frame → position ≡ length front → frame.letters < bits →
    StandsAfterByte bits count front byte (still words (with_letter position frame (bit_of byte)))
letter_stands bits count position front words frame byte begun at room = elim (cases_Bool (byte == 80)) [
  | inl is ↦ rw is (with_bit bits count front words frame byte 1 begun room (omega arith) (eqb-true byte 80 is))
  | inr no_p ↦ elim (cases_Bool (byte == 78)) [
    | inl is ↦ rw (no_p, is) (with_bit bits count front words frame byte 0 begun room (omega arith) (eqb-true byte 78 is))
    | inr no_n ↦ rw (no_p, no_n) (bad_letter bits count position front words frame byte begun at
        (λ lt letter. elim letter [ inl p ↦ eqb-false byte 80 no_p p | inr n ↦ eqb-false byte 78 no_n n ])
        (λ e. absurd (omega (arith, e, room))))
  ]
]

-- the frame's end
frame_ends : (bits count : ℕ) (front words : List ℕ) (frame : OpenFrame) (byte : ℕ) →
    IsBegun bits count front words frame → frame.letters ≡ bits → byte ≡ 70 →
    Shows bits (words ++ frame.word ∷ []) (front ++ byte ∷ []) × (length (words ++ frame.word ∷ []) ≤ count)
frame_ends bits count front words frame byte begun whole is =
    let text : front ++ byte ∷ [] ≡ begun.before ++ 66 ∷ (letters_of bits frame.word ++ 70 ∷ []) =
    ap (λ t. t ++ byte ∷ []) begun.front_is ∙
    append_assoc begun.before (66 ∷ letters_of frame.letters frame.word) (byte ∷ []) ∙
    ap (λ (b : ℕ). begun.before ++ 66 ∷ (letters_of frame.letters frame.word ++ b ∷ [])) is ∙
    ap (λ (n : ℕ). begun.before ++ 66 ∷ (letters_of n frame.word ++ 70 ∷ [])) whole in
    let fits : frame.word < 2 ^ bits = subst (λ (n : ℕ). frame.word < 2 ^ n) whole begun.fits in (
      subst (λ t. Shows bits (words ++ frame.word ∷ []) t) (sym text) (shows_frame bits words begun.before frame.word begun.shown fits),
      omega (arith, length-append words (frame.word ∷ []), begun.few),
    )

-- after a byte inside a frame
inside_stands : (bits count position : ℕ) (front words : List ℕ) (frame : OpenFrame) (byte : ℕ) →
    IsBegun bits count front words frame → position ≡ length front →
    StandsAfterByte bits count front byte (inside bits position words frame byte)
inside_stands bits count position front words frame byte begun at = elim (cases_Bool (nat_lt frame.letters bits)) [
  | inl lt ↦ rw lt (letter_stands bits count position front words frame byte begun at (ltb-true frame.letters bits lt))
  | inr ge ↦
      let whole : frame.letters ≡ bits = whole_is (ltb-false frame.letters bits ge) in
      elim (cases_Bool (byte == 70)) [
        | inl is ↦ rw (ge, is) (frame_ends bits count front words frame byte begun whole (eqb-true byte 70 is))
        | inr other ↦ rw (ge, other)
            (bad_letter bits count position front words frame byte begun at (λ lt letter. absurd (omega (arith, lt, whole)))
            (λ e. eqb-false byte 70 other))
      ]
]
  where
    whole_is : bits ≤ frame.letters → frame.letters ≡ bits
    whole_is ge = omega (arith, ge, begun.short)

-- after the next byte
byte_stands : (bits count position : ℕ) (front words : List ℕ) (begun : Option OpenFrame) (byte : ℕ) →
    StandsAfter bits count front words begun → position ≡ length front →
    StandsAfterByte bits count front byte (at_byte bits count position words begun byte)
byte_stands bits count position front words None byte stands at =
    outside_stands bits count position front words byte stands.0 stands.1 at
byte_stands bits count position front words (Some frame) byte stands at =
    inside_stands bits count position front words frame byte stands at

-- the end of the text
end_stands : (bits count : ℕ) (front words : List ℕ) (begun : Option OpenFrame) →
    StandsAfter bits count front words begun → Reads bits count front (at_end count words begun)
end_stands bits count front words None stands = elim (cases_Bool (nat_lt (length words) count)) [
  | inl lt ↦ rw lt (record {
    few = ltb-true (length words) count lt;
    whole = record {
      words = words;
      shown =
          stands.0;
      counted = refl;
    };
  })
  | inr ge ↦ rw ge (stands.0, all_are (ltb-false (length words) count ge))
]
  where
    all_are : count ≤ length words → length words ≡ count
    all_are ge = omega (arith, ge, stands.1)
end_stands bits count front words (Some frame) begun = record {
  front = begun.before;
  letters = letters_of frame.letters frame.word;
  inside = record {
    frames = length words;
    few = begun.few;
    before = record { words = words; shown = begun.shown; counted = refl };
    letters = letters_of_are frame.letters frame.word;
    short = omega (arith, length-letters_of frame.letters frame.word, begun.short);
    text_is = begun.front_is ∙
        ap (λ t. begun.before ++ 66 ∷ t) (sym (append-nil (letters_of frame.letters frame.word)));
  };
  position_is = begun.start_is;
}

-- the bytes that are left bring an answer that the grammar allows for the whole
run_stands : (bits count position : ℕ) (front rest : List ℕ) (state : State) →
    StandsAfter bits count front state.words state.begun → position ≡ length front →
    Reads bits count (front ++ rest) (run bits count position state rest)
unfolding run
run_stands bits count position front [] state stands at =
    subst (λ t. Reads bits count t (at_end count state.words state.begun)) (sym (append-nil front))
    (end_stands bits count front state.words state.begun stands)
run_stands bits count position front (byte ∷ rest) state stands at =
    goes_on (λ next stands. subst (λ t. Reads bits count t (run bits count (position + 1) next rest))
    (append_assoc front (byte ∷ []) rest)
    (run_stands bits count (position + 1) (front ++ byte ∷ []) rest next stands (omega (arith, at, length-append front (byte ∷ [])))))
    (at_byte bits count position state.words state.begun byte)
    (byte_stands bits count position front state.words state.begun byte stands at)
  where
    goes_on : ((next : State) → StandsAfter bits count (front ++ byte ∷ []) next.words next.begun →
        Reads bits count (front ++ byte ∷ rest) (run bits count (position + 1) next rest)) →
        (brought : Result State BpnfFault) → StandsAfterByte bits count front byte brought →
        Reads bits count (front ++ byte ∷ rest) (and_then brought (λ next. run bits count (position + 1) next rest))
    goes_on further (Ok next) after = further next after
    goes_on further (Err fault) after = after rest

-- the reading of a text is an answer that the grammar allows
pub reading_is_read : (bits count : ℕ) (text : List ℕ) → Reads bits count text (reading bits count text)
unfolding Shows
reading_is_read bits count text = run_stands bits count 0 [] text first (All-nil (λ (b : ℕ). b ≢ 66), omega arith) refl
