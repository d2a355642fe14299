-- Joining: one image more, and one word more.
use Rattle.std.proofs.Common.{ℕ, suc, ◌+◌, ◌-◌, ◌*◌, ◌/◌, ◌%◌, ◌^◌, ◌<◌, ◌≤◌, ◌≡◌, sym, ap, subst, ◌∙◌, arith, List, [], ◌∷◌, ◌++◌, length, get_or, Option, Some, slice_get, inl, inr}
use Rattle.std.specs.Prelude.{slice_index}
use Rattle.std.specs.List.{All}
use Rattle.std.specs.Int.{bit_at}
use Rattle.std.proofs.lemmas.Bool.{cases_lt}
use Rattle.std.proofs.lemmas.List.Elements.{All-get_or, All-push}
use Rattle.std.proofs.lemmas.Nat.{pow_pos, pow-add, div-mul-add, mod-mul-add, shl_whole}
use Rattle.std.proofs.lemmas.Option.{slice_get_within}
use Rattle.std.proofs.Math.Nat.{mul-le-mul_right, pow-le-pow_right, mod-lt}
use Rattle.bpnf.specs.Image.{Image, IsImage}
use Rattle.prom_split.specs.Images.{words_in, shown_bit}
use Rattle.prom_split.proofs.ImageBits.{bit_at-low, bit_at-sum_low, bit_at-sum_high}
use Rattle.prom_split.proofs.ListSteps.{length_push, number_before, number_last}

-- a word of an image is below the power of its bits
pub word_below : (image : Image) (bits address : ℕ) → IsImage image → image.bits ≡ bits → address < 512
    → get_or image.words address 0 < 2 ^ bits
word_below image bits address is same within =
    let below : get_or image.words address 0 < 2 ^ image.bits =
    All-get_or (λ word. word < 2 ^ image.bits) image.words address 0 (omega (arith, is.many)) is.fits in
    subst (λ (b : ℕ). get_or image.words address 0 < 2 ^ b) same below

-- the number has the bits that the first images show, as many as place
pub record Stacked (bits : ℕ) (images : List Image) (address place number : ℕ) : Type 0 where
  pub below : number < 2 ^ (place * bits)
  pub shown : (bit : ℕ) → bit < place * bits → bit_at number bit ≡ shown_bit bits images address bit

-- a number with another above it is below the product of their powers
above : (x v q p : ℕ) → x < p → v < q → v + x * q < q * p
above x v q p h g =
    let e : suc x * q ≤ p * q = mul-le-mul_right q h in
    omega arith

-- one more image fits
pub stacked_fits : (bits place number word : ℕ) → number < 2 ^ (place * bits) → word < 2 ^ bits
    → number + word * 2 ^ (place * bits) < 2 ^ ((place + 1) * bits)
stacked_fits bits place number word low high =
    let sum : (place + 1) * bits ≡ place * bits + bits = omega arith in
    let power : 2 ^ ((place + 1) * bits) ≡ 2 ^ (place * bits) * 2 ^ bits = ap (λ (n : ℕ). 2 ^ n) sum ∙ pow-add 2 (place * bits) bits in
    rw power (above word number (2 ^ (place * bits)) (2 ^ bits) high low)

-- the bits of one more image
pub stacked_turn : (bits : ℕ) (images : List Image) (address place number : ℕ) (image : Image) → 0 < bits
    → slice_get images place ≡ Some image → get_or image.words address 0 < 2 ^ bits
    → Stacked bits images address place number
    → Stacked bits images address (place + 1) (number + get_or image.words address 0 * 2 ^ (place * bits))
stacked_turn bits images address place number image some at high s = record {
  below = stacked_fits bits place number (get_or image.words address 0) s.below high;
  shown = λ bit lt. elim (cases_lt bit (place * bits)) [
    | inl low ↦ bit_at-sum_low number (place * bits) (get_or image.words address 0) bit low ∙ s.shown bit low
    | inr up ↦
        (let rest : ℕ = bit - place * bits in
        let sum : bit ≡ place * bits + rest = omega arith in
        let small : rest < bits = omega (arith, lt) in
        let row : bit / bits ≡ place = ap (λ (n : ℕ). n / bits) sum ∙ div-mul-add place bits rest small in
        let column : bit % bits ≡ rest = ap (λ (n : ℕ). n % bits) sum ∙ mod-mul-add place bits rest small in
        let found : slice_get images (bit / bits) ≡ Some image = ap (slice_get images) row ∙ at in
        ap (bit_at (number + get_or image.words address 0 * 2 ^ (place * bits))) sum
        ∙ bit_at-sum_high number (place * bits) (get_or image.words address 0) rest s.below
        ∙ sym (ap (λ (o : Option Image). bit_at (slice_index (words_in o) address) (bit % bits)) found
        ∙ ap (bit_at (slice_index image.words address)) column))
  ];
}

-- a shifted word of an image keeps all its bits
shift_whole : (bits place count word : ℕ) → word < 2 ^ bits → place < count → count * bits ≤ 103
    → word * 2 ^ (place * bits) % 340282366920938463463374607431768211456 ≡ word * 2 ^ (place * bits)
shift_whole bits place count word high lt narrow =
    let less : suc place * bits ≤ count * bits = mul-le-mul_right bits lt in
    shl_whole word bits (place * bits) 128 high (omega arith)

-- the number with one more image fits
pub stacked_small : (bits : ℕ) (images : List Image) (address place count number word shift : ℕ) → shift ≡ bits → word < 2 ^ bits
    → place < count → count * bits ≤ 103 → Stacked bits images address place number
    → number + word * 2 ^ (place * shift) % 340282366920938463463374607431768211456 < 340282366920938463463374607431768211456
stacked_small bits images address place count number word shift e high lt narrow s =
    let less : (place + 1) * bits ≤ count * bits = mul-le-mul_right bits (omega arith) in
    let narrower : (place + 1) * bits ≤ 103 = omega arith in
    let small : 2 ^ ((place + 1) * bits) ≤ 2 ^ 103 = pow-le-pow_right (omega arith) narrower in
    rw (e, shift_whole bits place count word high lt narrow) (omega (arith, stacked_fits bits place number word s.below high))

-- one turn of the loop over the images
pub stacked_step : (bits : ℕ) (images : List Image) (address place number : ℕ) (image : Image) (word shift : ℕ) → 0 < bits
    → slice_get images place ≡ Some image → word ≡ get_or image.words address 0 → shift ≡ bits
    → word < 2 ^ bits → length images * bits ≤ 103 → Stacked bits images address place number
    → Stacked bits images address (place + 1) (number + word * 2 ^ (place * shift) % 340282366920938463463374607431768211456)
stacked_step bits images address place number image word shift some at here e high narrow s =
    let lt : place < length images = slice_get_within images place image at in
    rw (e, shift_whole bits place (length images) word high lt narrow)
    (rw here (stacked_turn bits images address place number image some at (rw (← here) high) s))

-- the first words, as many as count, are read from the images
pub record Read (width bits : ℕ) (images : List Image) (count : ℕ) (words : List ℕ) : Type 0 where
  pub many : length words ≡ count
  pub fit : All (λ word. word < 2 ^ width) words
  pub shown : (address bit : ℕ) → address < count → bit < width
      → shown_bit bits images address bit ≡ bit_at (slice_index words address) bit

-- one more word is read
pub read_push : (width bits : ℕ) (images : List Image) (count : ℕ) (words : List ℕ) (number : ℕ) → Read width bits images count words
    → ((bit : ℕ) → bit < width → bit_at number bit ≡ shown_bit bits images count bit)
    → Read width bits images (count + 1) (words ++ number % 2 ^ width ∷ [])
read_push width bits images count words number r shows = record {
  many = omega (arith, length_push words (number % 2 ^ width), r.many);
  fit = All-push (λ word. word < 2 ^ width) words (number % 2 ^ width) r.fit (mod-lt number (pow_pos width));
  shown = λ address bit before lt. elim (cases_lt address count) [
    | inl old ↦ r.shown address bit old lt
        ∙ ap (λ (word : ℕ). bit_at word bit) (sym (number_before words (number % 2 ^ width) address (omega (arith, r.many))))
    | inr new ↦
        (let here : address ≡ count = omega arith in
        let last : get_or (words ++ number % 2 ^ width ∷ []) address 0 ≡ number % 2 ^ width =
        number_last words (number % 2 ^ width) address (omega (arith, r.many)) in
        ap (λ (a : ℕ). shown_bit bits images a bit) here ∙ sym (shows bit lt) ∙ sym (bit_at-low number width bit lt)
        ∙ ap (λ (word : ℕ). bit_at word bit) (sym last))
  ];
}
