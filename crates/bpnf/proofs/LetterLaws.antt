-- The letters of a word: how many, which bytes, and how they grow by one at either end.

use Rattle.std.proofs.Common.{◌≡◌, ℕ, zero, suc, ◌+◌, ◌-◌, ◌*◌, ◌/◌, ◌%◌, ◌<◌, [], ◌∷◌, ◌++◌, length, refl, ap, ◌∙◌, inl, inr, arith}
use Rattle.std.specs.List.{All}
use Rattle.std.specs.Int.{bit_at}
use Rattle.std.proofs.lemmas.List.Elements.{All-nil, All-cons}
use Rattle.std.proofs.lemmas.Nat.Bits.{bit_at_lowest, bit_at-suc}
use Rattle.bpnf.specs.Frames.{letter, IsLetter, letters_of}

-- the first letter is that of the highest bit
pub first_letter : (n word : ℕ) → 0 < n → letters_of n word ≡ letter (bit_at word (n - 1)) ∷ letters_of (n - 1) word
unfolding letters_of
first_letter zero word lt = absurd (omega arith)
first_letter (suc n) word lt =
    let e : n ≡ suc n - 1 = omega arith in
    ap (λ (k : ℕ). letter (bit_at word k) ∷ letters_of k word) e

-- the last letter is that of the lowest bit
pub letters_of-more : (n word bit : ℕ) → bit < 2 →
    letters_of (suc n) (word * 2 + bit) ≡ letters_of n word ++ letter bit ∷ []
unfolding letters_of
letters_of-more zero word bit lt =
    let e : bit_at (word * 2 + bit) 0 ≡ bit = bit_at_lowest (word * 2 + bit) ∙ omega arith in
    ap (λ (b : ℕ). letter b ∷ []) e
letters_of-more (suc n) word bit lt =
    let half : (word * 2 + bit) / 2 ≡ word = omega arith in
    let e : bit_at (word * 2 + bit) (suc n) ≡ bit_at word n = bit_at-suc (word * 2 + bit) n ∙
    ap (λ (w : ℕ). bit_at w n) half in
    ap (λ (b : ℕ). letter b ∷ letters_of (suc n) (word * 2 + bit)) e ∙
    ap (λ bs. letter (bit_at word n) ∷ bs) (letters_of-more n word bit lt)

-- the same, for a word that is taken apart
pub letters_of-last : (n word : ℕ) → letters_of (suc n) word ≡ letters_of n (word / 2) ++ letter (word % 2) ∷ []
letters_of-last n word =
    let e : word ≡ word / 2 * 2 + word % 2 = omega arith in
    let lt : word % 2 < 2 = omega arith in
    ap (λ (w : ℕ). letters_of (suc n) w) e ∙ letters_of-more n (word / 2) (word % 2) lt

-- there are as many letters as bits
pub length-letters_of : (n word : ℕ) → length (letters_of n word) ≡ n
unfolding letters_of
length-letters_of zero word = refl
length-letters_of (suc n) word = ap (λ (k : ℕ). suc k) (length-letters_of n word)

-- a bit's letter is a letter
letter_is : (bit : ℕ) → IsLetter (letter bit)
letter_is zero = inr refl
letter_is (suc bit) = inl refl

-- each is a letter
pub letters_of_are : (n word : ℕ) → All IsLetter (letters_of n word)
unfolding letters_of
letters_of_are zero word = All-nil IsLetter
letters_of_are (suc n) word = All-cons IsLetter _ _ (letter_is (bit_at word n)) (letters_of_are n word)
