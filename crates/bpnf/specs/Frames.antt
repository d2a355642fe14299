-- The grammar of a BPNF text: a comment, a frame, a comment, a frame, .., a comment. Letters, frames and the order
-- of the bits are those of BPNF tapes; what a comment is, is this project's own choice.

use Rattle.std.specs.Prelude.{ℕ, zero, suc, ◌≡◌, ◌≢◌, ◌<◌, ◌^◌, ◌⊎◌, List, [], ◌∷◌, ◌++◌}
use Rattle.std.specs.List.{All}
use Rattle.std.specs.Int.{bit_at}

-- a comment is any bytes but `B`, or none (own choice)
abbrev pub IsComment : List ℕ → Type 0
IsComment text = All (λ byte. byte ≢ 66) text

-- the letter of a bit: `P` for 1, `N` for 0 (BPNF)
abbrev pub letter : ℕ → ℕ
letter zero = 78
letter (suc _) = 80

-- a byte that is a letter (BPNF)
abbrev pub IsLetter : ℕ → Type 0
IsLetter byte = (byte ≡ 80) ⊎ (byte ≡ 78)

-- the letters of the lowest bits of a word, so many, most significant bit first (BPNF)
unfoldable pub letters_of : ℕ → ℕ → List ℕ
letters_of zero word = []
letters_of (suc n) word = letter (bit_at word n) ∷ letters_of n word

-- the frame of a word: `B`, its letters, `F` (BPNF)
abbrev pub frame : ℕ → ℕ → List ℕ
frame bits word = 66 ∷ (letters_of bits word ++ 70 ∷ [])

-- a text is a comment, the frame of a word that has so many bits, and `rest`
pub record Begins (bits word : ℕ) (rest text : List ℕ) : Type 0 where
  pub fits : word < 2 ^ bits
  pub comment : List ℕ
  pub before : IsComment comment
  pub text_is : text ≡ comment ++ (frame bits word ++ rest)

-- a text is the frames of the words in order, with comments before, between and after them
unfoldable pub Shows : ℕ → List ℕ → List ℕ → Type 0
Shows bits [] text = IsComment text
Shows bits (word ∷ words) text = (rest : List ℕ) × Begins bits word rest text × Shows bits words rest
