-- What is read from written images is what was written, and images are fixed by their words.
use Rattle.std.proofs.Common.{ℕ, suc, ◌+◌, ◌*◌, ◌/◌, ◌%◌, ◌^◌, ◌<◌, ◌≡◌, refl, sym, ap, ap₂, ◌∙◌, arith, List, [], ◌∷◌, length, get_or, Option, Some, slice_get, inl, inr}
use Rattle.std.specs.Prelude.{slice_index}
use Rattle.std.specs.Int.{bit_at}
use Rattle.std.proofs.lemmas.Bool.{cases_lt}
use Rattle.std.proofs.lemmas.Grind.{same_number_lists}
use Rattle.std.proofs.lemmas.List.Elements.{All-get_or}
use Rattle.std.proofs.lemmas.Nat.{div-mul-add, mod-mul-add}
use Rattle.std.proofs.lemmas.Nat.Bits.{same_from_bits_below}
use Rattle.bpnf.specs.Image.{Image}
use Rattle.field_decl.specs.Declaration.{Declaration}
use Rattle.prom_split.specs.Parts.{width_of}
use Rattle.prom_split.specs.Images.{FitWords, AreImages, AreJoined, words_in, shown_bit}
use Rattle.prom_split.proofs.SplitSteps.{image_with}
use Rattle.prom_split.proofs.JoinSteps.{word_below}

pub read_back : (decl : Declaration) (words read : List ℕ) (images : List Image) → FitWords decl words → AreImages decl words images
    → AreJoined decl images read → read ≡ words
read_back decl words read images fit written joined =
    same_number_lists read words (joined.words_fit.count ∙ sym fit.count) (λ address within.
    let below : address < 512 = omega (arith, joined.words_fit.count) in
    same_from_bits_below (width_of decl) (get_or read address 0) (get_or words address 0)
    (All-get_or (λ word. word < 2 ^ width_of decl) read address 0 within joined.words_fit.fit)
    (All-get_or (λ word. word < 2 ^ width_of decl) words address 0 (omega (arith, fit.count)) fit.fit)
    (λ bit lt. sym (joined.shown address bit below lt) ∙ written.shown address bit below lt))

-- images that are as many and the same one by one are the same
pub same_images : (xs ys : List Image) → length xs ≡ length ys
    → ((k : ℕ) (x y : Image) → slice_get xs k ≡ Some x → slice_get ys k ≡ Some y → x ≡ y) → xs ≡ ys
same_images [] [] e h = refl
same_images [] (y ∷ ys) e h = absurd (omega arith)
same_images (x ∷ xs) [] e h = absurd (omega arith)
same_images (x ∷ xs) (y ∷ ys) e h =
    ap₂ (λ (a : Image) (rest : List Image). a ∷ rest) (h 0 x y refl refl)
    (same_images xs ys (omega arith) (λ k a b at here. h (suc k) a b at here))

-- a bit of an image's word is shown at its place
at_bit : (bits : ℕ) (images : List Image) (address k i : ℕ) (image : Image) → i < bits → slice_get images k ≡ Some image
    → shown_bit bits images address (k * bits + i) ≡ bit_at (slice_index image.words address) i
at_bit bits images address k i image lt at =
    let row : (k * bits + i) / bits ≡ k = div-mul-add k bits i lt in
    let column : (k * bits + i) % bits ≡ i = mod-mul-add k bits i lt in
    let found : slice_get images ((k * bits + i) / bits) ≡ Some image = ap (slice_get images) row ∙ at in
    ap (λ (o : Option Image). bit_at (slice_index (words_in o) address) ((k * bits + i) % bits)) found
    ∙ ap (bit_at (slice_index image.words address)) column

-- what is written shows the same bits
same_shown : (decl : Declaration) (words : List ℕ) (images others : List Image) (address bit : ℕ) → AreImages decl words images
    → AreImages decl words others → address < 512
    → shown_bit decl.prom_bits images address bit ≡ shown_bit decl.prom_bits others address bit
same_shown decl words images others address bit p q below = elim (cases_lt bit (width_of decl)) [
  | inl lt ↦ p.shown address bit below lt ∙ sym (q.shown address bit below lt)
  | inr high ↦ p.past address bit below high ∙ sym (q.past address bit below high)
]

pub images_one : (decl : Declaration) (words : List ℕ) (images others : List Image) → AreImages decl words images
    → AreImages decl words others → images ≡ others
images_one decl words images others p q = same_images images others (p.fit.count ∙ sym q.fit.count) one
  where
    one : (k : ℕ) (x y : Image) → slice_get images k ≡ Some x → slice_get others k ≡ Some y → x ≡ y
    one k x y at here =
        let left = p.fit.each k x at in
        let right = q.fit.each k y here in
        let words_same : x.words ≡ y.words = same_number_lists x.words y.words (left.0.many ∙ sym right.0.many) (λ address within.
        let below : address < 512 = omega (arith, left.0.many) in
        same_from_bits_below decl.prom_bits (get_or x.words address 0) (get_or y.words address 0)
        (word_below x decl.prom_bits address left.0 left.1 below) (word_below y decl.prom_bits address right.0 right.1 below)
        (λ i lt. sym (at_bit decl.prom_bits images address k i x lt at)
        ∙ same_shown decl words images others address (k * decl.prom_bits + i) p q below
        ∙ at_bit decl.prom_bits others address k i y lt here)) in
        ap₂ image_with (left.1 ∙ sym right.1) words_same
