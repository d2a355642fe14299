-- Letters of words in the canonical text of an image.
use Rattle.std.proofs.Common.{ℕ, zero, suc, ◌+◌, ◌-◌, ◌*◌, ◌/◌, ◌%◌, ◌<◌, ◌≡◌, inl, inr, refl, sym, ap, ◌∙◌, arith, List, [], ◌∷◌, ◌++◌, length, get_or, Option, Some, slice_get}
use Rattle.std.specs.Prelude.{slice_index}
use Rattle.std.specs.Int.{bit_at}
use Rattle.std.proofs.lemmas.Bool.{cases_lt}
use Rattle.std.proofs.lemmas.Nat.{div_below}
use Rattle.std.proofs.Math.Nat.{mod-lt}
use Rattle.bpnf.specs.Frames.{letter, letters_of, frame}
use Rattle.bpnf.specs.Canonical.{frames_of, image_text}
use Rattle.bpnf.specs.Image.{Image, IsWidth}
use Rattle.bpnf.proofs.LetterLaws.{length-letters_of}
use Rattle.field_decl.specs.Declaration.{Declaration}
use Rattle.prom_split.specs.Parts.{width_of}
use Rattle.prom_split.specs.Images.{AreImages, words_in}
use Rattle.prom_split.specs.SavedBits.{letter_place, IsSavedBit}
use Rattle.prom_split.proofs.ListSteps.{element_at}
use Rattle.prom_split.proofs.Widths.{width_some, cover}

get_left : {X : Type 0} → (xs ys : List X) (i : ℕ) → i < length xs → slice_get (xs ++ ys) i ≡ slice_get xs i
get_left [] ys i lt = absurd (omega arith)
get_left (x ∷ xs) ys zero lt = refl
get_left (x ∷ xs) ys (suc i) lt = get_left xs ys i (omega arith)

get_right : {X : Type 0} → (xs ys : List X) (i : ℕ) → slice_get (xs ++ ys) (length xs + i) ≡ slice_get ys i
get_right [] ys i = let e : 0 + i ≡ i = omega arith in ap (slice_get ys) e
get_right (x ∷ xs) ys i =
    let e : length (x ∷ xs) + i ≡ suc (length xs + i) = omega arith in
    ap (slice_get (x ∷ (xs ++ ys))) e ∙ get_right xs ys i

-- the letter of a bit, the highest bit first
letter_at : (n word bit : ℕ) → bit < n → slice_get (letters_of n word) (n - 1 - bit) ≡ Some (letter (bit_at word bit))
unfolding letters_of
letter_at zero word bit lt = absurd (omega arith)
letter_at (suc n) word bit lt = elim (cases_lt bit n) [
  | inl low ↦
      (let place : suc n - 1 - bit ≡ suc (n - 1 - bit) = omega arith in
      ap (slice_get (letter (bit_at word n) ∷ letters_of n word)) place ∙ letter_at n word bit low)
  | inr high ↦
      (let top : bit ≡ n = omega arith in
      let place : suc n - 1 - bit ≡ 0 = omega arith in
      ap (slice_get (letter (bit_at word n) ∷ letters_of n word)) place ∙ ap (λ (i : ℕ). Some (letter (bit_at word i))) (sym top))
]

-- the letter in its frame
letter_in_frame : (bits word bit : ℕ) → bit < bits
    → slice_get (frame bits word ++ 10 ∷ []) (1 + (bits - 1 - bit)) ≡ Some (letter (bit_at word bit))
letter_in_frame bits word bit lt =
    let within : bits - 1 - bit < length (letters_of bits word) = omega (arith, length-letters_of bits word) in
    let inner : slice_get ((letters_of bits word ++ 70 ∷ []) ++ 10 ∷ []) (bits - 1 - bit) ≡ slice_get (letters_of bits word)
    (bits - 1 - bit) =
    get_left (letters_of bits word ++ 70 ∷ []) (10 ∷ []) (bits - 1 - bit) (more (letters_of bits word) (bits - 1 - bit) within)
    ∙ get_left (letters_of bits word) (70 ∷ []) (bits - 1 - bit) within in
    let place : 1 + (bits - 1 - bit) ≡ suc (bits - 1 - bit) = omega arith in
    ap (slice_get (frame bits word ++ 10 ∷ [])) place ∙ inner ∙ letter_at bits word bit lt
  where
    more : (xs : List ℕ) (i : ℕ) → i < length xs → i < length (xs ++ 70 ∷ [])
    more [] i lt = absurd (omega arith)
    more (x ∷ xs) zero lt = omega arith
    more (x ∷ xs) (suc i) lt = omega (arith, more xs i (omega arith))

frame_length : (bits word : ℕ) → length (frame bits word ++ 10 ∷ []) ≡ bits + 3
frame_length bits word = omega (arith, two (letters_of bits word) 70 10, length-letters_of bits word)
  where
    two : (xs : List ℕ) (a b : ℕ) → length ((xs ++ a ∷ []) ++ b ∷ []) ≡ length xs + 2
    two [] a b = refl
    two (x ∷ xs) a b = omega (arith, two xs a b)

append_one : (xs ys : List ℕ) → xs ++ 10 ∷ ys ≡ (xs ++ 10 ∷ []) ++ ys
append_one [] ys = refl
append_one (x ∷ xs) ys = ap (λ (zs : List ℕ). x ∷ zs) (append_one xs ys)

-- a byte of a frame, in the text
frame_at : (bits : ℕ) (words : List ℕ) (address place : ℕ) → address < length words → place < bits + 3
    → slice_get (frames_of bits words) (address * (bits + 3) + place) ≡ slice_get (frame bits (get_or words address 0) ++ 10 ∷ []) place
unfolding frames_of
frame_at bits [] address place lt small = absurd (omega arith)
frame_at bits (word ∷ words) zero place lt small =
    let e : 0 * (bits + 3) + place ≡ place = omega arith in
    ap (slice_get (frame bits word ++ 10 ∷ frames_of bits words)) e
    ∙ ap (λ (text : List ℕ). slice_get text place) (append_one (frame bits word) (frames_of bits words))
    ∙ get_left (frame bits word ++ 10 ∷ []) (frames_of bits words) place (omega (arith, frame_length bits word))
frame_at bits (word ∷ words) (suc address) place lt small =
    let e : suc address * (bits + 3) + place ≡ length (frame bits word ++ 10 ∷ []) + (address * (bits + 3) + place) =
    omega (arith, frame_length bits word) in
    ap (slice_get (frame bits word ++ 10 ∷ frames_of bits words)) e
    ∙ ap (λ (text : List ℕ). slice_get text (length (frame bits word ++ 10 ∷ []) + (address * (bits + 3) + place)))
    (append_one (frame bits word) (frames_of bits words))
    ∙ get_right (frame bits word ++ 10 ∷ []) (frames_of bits words) (address * (bits + 3) + place)
    ∙ frame_at bits words address place (omega arith) small

-- the letter of a bit, in the text of the image
letter_in_text : (bits : ℕ) (words : List ℕ) (address bit : ℕ) → address < length words → bit < bits
    → slice_get (frames_of bits words) (letter_place bits address bit) ≡ Some (letter (bit_at (get_or words address 0) bit))
letter_in_text bits words address bit within lt =
    let e : address * (bits + 3) + 1 + (bits - 1 - bit) ≡ address * (bits + 3) + (1 + (bits - 1 - bit)) = omega arith in
    ap (slice_get (frames_of bits words)) e ∙ frame_at bits words address (1 + (bits - 1 - bit)) within (omega arith)
    ∙ letter_in_frame bits (get_or words address 0) bit lt

pub saved_bit : (decl : Declaration) (words : List ℕ) (images : List Image) → IsWidth decl.prom_bits → AreImages decl words images
    → (address bit : ℕ) → address < 512 → bit < width_of decl
    → IsSavedBit decl.prom_bits words images address bit
saved_bit decl words images width are address bit within lt =
    let w : ℕ = decl.prom_bits in
    let some : 0 < w = width_some w width in
    let room = (cover (width_of decl) w width).room in
    let inside : bit / w < length images =
    omega (arith, div_below bit w (length images) some (rw are.fit.count (omega (arith, room, lt)))) in
    let found = element_at images (bit / w) inside in
    let is = are.fit.each (bit / w) found.0 found.1 in
    let shown : bit_at (get_or found.0.words address 0) (bit % w) ≡ bit_at (slice_index words address) bit =
    sym (ap (λ (o : Option Image). bit_at (slice_index (words_in o) address) (bit % w)) found.1) ∙ are.shown address bit within lt in
    let text : image_text found.0 ≡ frames_of w found.0.words = ap (λ (b : ℕ). frames_of b found.0.words) is.1 in (
      found.0,
      found.1,
      ap (λ (t : List ℕ). slice_get t (letter_place w address (bit % w))) text
          ∙ letter_in_text w found.0.words address (bit % w) (omega (arith, is.0.many)) (mod-lt bit some)
          ∙ ap (λ (b : ℕ). Some (letter b)) shown,
    )
