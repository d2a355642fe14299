-- Splitting: what each image shows.
use Rattle.std.proofs.Common.{ℕ, ◌+◌, ◌*◌, ◌/◌, ◌%◌, ◌^◌, ◌<◌, ◌≤◌, ◌≡◌, sym, ap, subst, ◌∙◌, arith, List, [], ◌∷◌, ◌++◌, length, get_or, Option, Some, slice_get, inl, inr}
use Rattle.std.specs.Prelude.{map, slice_index}
use Rattle.std.specs.Int.{bit_at}
use Rattle.std.proofs.lemmas.Bool.{cases_lt}
use Rattle.std.proofs.lemmas.List.{get_or-map, length-map}
use Rattle.std.proofs.lemmas.List.Elements.{All-map, All-get_or, All-from_get_or}
use Rattle.std.proofs.lemmas.Option.{slice_get_past}
use Rattle.std.proofs.lemmas.Nat.{pow_pos, div_below, le-div, div-add-mod'}
use Rattle.std.proofs.lemmas.Nat.Bits.{bit_at_above, bit_at-zero}
use Rattle.std.proofs.Math.Nat.{mod-lt}
use Rattle.bpnf.specs.Image.{Image, IsImage, IsWidth}
use Rattle.field_decl.specs.Declaration.{Declaration}
use Rattle.prom_split.specs.Parts.{width_of}
use Rattle.prom_split.specs.Images.{FitWords, AreImages, words_in, shown_bit, image_count}
use Rattle.prom_split.proofs.ImageBits.{bit_at-shr, bit_at-low}
use Rattle.prom_split.proofs.ListSteps.{element_at, element_cases, length_push}

-- the bits of a word that stand in image k
abbrev pub cut : ℕ → ℕ → ℕ → ℕ
cut bits k word = word / 2 ^ (k * bits) % 2 ^ bits

-- image k of these words
abbrev pub image_of : ℕ → List ℕ → ℕ → Image
image_of bits words k = record { bits = bits; words = map (cut bits k) words }

pub image_of_fits : (bits : ℕ) (words : List ℕ) (k : ℕ) → IsWidth bits → length words ≡ 512 → IsImage (image_of bits words k)
image_of_fits bits words k width count = record {
  width = width;
  many = length-map words (cut bits k) ∙ count;
  fits = All-map (λ word. word < 2 ^ bits) (cut bits k) words
      (All-from_get_or (λ word. cut bits k word < 2 ^ bits) words 0 (λ i lt. mod-lt (get_or words i 0 / 2 ^ (k * bits)) (pow_pos bits)));
}

-- the first images of these words, as many as count
pub record Written (bits : ℕ) (words : List ℕ) (count : ℕ) (images : List Image) : Type 0 where
  pub many : length images ≡ count
  pub each : (k : ℕ) (image : Image) → slice_get images k ≡ Some image → image ≡ image_of bits words k

pub written_push : (bits : ℕ) (words : List ℕ) (count : ℕ) (images : List Image) (image : Image) → Written bits words count images
    → image ≡ image_of bits words count → Written bits words (count + 1) (images ++ image ∷ [])
written_push bits words count images image w e = record {
  many = omega (arith, length_push images image, w.many);
  each = λ k other at. elim (element_cases images image k other at) [
    | inl before ↦ w.each k other before
    | inr last ↦ last.1 ∙ e ∙ ap (image_of bits words) (sym (last.0 ∙ w.many))
  ];
}

abbrev pub image_with : ℕ → List ℕ → Image
image_with bits words = record { bits = bits; words = words }

-- the words that the code cuts are those of the image
pub image_is : (bits : ℕ) (words : List ℕ) (place shift : ℕ) (bytes : List ℕ) → shift ≡ bits
    → bytes ≡ map (λ word. word / 2 ^ (place * shift) % 2 ^ bits) words → image_with bits bytes ≡ image_of bits words place
image_is bits words place shift bytes e cuts =
    ap (image_with bits) (cuts ∙ ap (λ (s : ℕ). map (λ word. word / 2 ^ (place * s) % 2 ^ bits) words) e)

-- a bit of a cut word
cut_bit : (bits k word i : ℕ) → i < bits → bit_at (cut bits k word) i ≡ bit_at word (k * bits + i)
cut_bit bits k word i lt = bit_at-low (word / 2 ^ (k * bits)) bits i lt ∙ bit_at-shr word (k * bits) i

-- the words of an image are those of the image that stands at a place
shown_at : (bits : ℕ) (images : List Image) (address bit : ℕ) (image : Image) → slice_get images (bit / bits) ≡ Some image
    → shown_bit bits images address bit ≡ bit_at (slice_index image.words address) (bit % bits)
shown_at bits images address bit image at = ap (λ (found : Option Image). bit_at (slice_index (words_in found) address) (bit % bits)) at

-- where no image stands, no bit is shown
pub shown_past : (bits : ℕ) (images : List Image) (address bit : ℕ) → length images ≤ bit / bits → shown_bit bits images address bit ≡ 0
shown_past bits images address bit past =
    ap (λ (found : Option Image). bit_at (slice_index (words_in found) address) (bit % bits)) (slice_get_past images (bit / bits) past)
    ∙ bit_at-zero (bit % bits)

-- within the images each bit is the word's
pub shown_within : (bits : ℕ) (words : List ℕ) (count : ℕ) (images : List Image) (address bit : ℕ) → 0 < bits
    → Written bits words count images → address < length words → bit < count * bits
    → shown_bit bits images address bit ≡ bit_at (slice_index words address) bit
shown_within bits words count images address bit some w within lt =
    let k : ℕ = bit / bits in
    let inside : bit / bits < length images = omega (arith, div_below bit bits count some lt, w.many) in
    let found = element_at images (bit / bits) inside in
    let same : found.0 ≡ image_of bits words (bit / bits) = w.each (bit / bits) found.0 found.1 in
    let read : slice_index (map (cut bits (bit / bits)) words) address ≡ cut bits (bit / bits) (slice_index words address) =
    get_or-map (cut bits (bit / bits)) words address 0 0 within in
    shown_at bits images address bit found.0 found.1
    ∙ ap (λ (image : Image). bit_at (slice_index image.words address) (bit % bits)) same
    ∙ ap (λ (word : ℕ). bit_at word (bit % bits)) read
    ∙ cut_bit bits (bit / bits) (slice_index words address) (bit % bits) (mod-lt bit some)
    ∙ ap (bit_at (slice_index words address)) (div-add-mod' bit bits)

-- the images of words that fit are those that are to be written
pub are_images : (decl : Declaration) (words : List ℕ) (count : ℕ) (images : List Image) → IsWidth decl.prom_bits → 0 < decl.prom_bits
    → FitWords decl words → count ≡ image_count decl → width_of decl ≤ count * decl.prom_bits → Written decl.prom_bits words count images
    → AreImages decl words images
are_images decl words count images width some fit all room w = record {
  fit = record {
    count = w.many ∙ all;
    each = λ k image at. let e = w.each k image at in
        (subst (λ (x : Image). IsImage x) (sym e) (image_of_fits decl.prom_bits words k width fit.count), ap (λ (x : Image). x.bits) e);
  };
  shown = λ address bit below lt. shown_within decl.prom_bits words count images address bit some w (omega (arith, fit.count))
      (omega arith);
  past = λ address bit below high. elim (cases_lt bit (count * decl.prom_bits)) [
    | inl lt ↦
        shown_within decl.prom_bits words count images address bit some w (omega (arith, fit.count)) lt
        ∙ bit_at_above (slice_index words address) (width_of decl) bit
        (All-get_or (λ word. word < 2 ^ width_of decl) words address 0 (omega (arith, fit.count)) fit.fit) high
    | inr out ↦ shown_past decl.prom_bits images address bit (omega (arith, le-div count bit decl.prom_bits some out, w.many))
  ];
}
