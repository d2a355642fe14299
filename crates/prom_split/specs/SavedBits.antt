-- Where the bits of words stand in the saved texts of their images: BPNF texts in canonical form (own choice).
use Rattle.std.specs.Prelude.{ℕ, ◌≡◌, ◌+◌, ◌-◌, ◌*◌, ◌/◌, ◌%◌, List, Some, slice_get, slice_index}
use Rattle.std.specs.Int.{bit_at}
use Rattle.bpnf.specs.Frames.{letter}
use Rattle.bpnf.specs.Canonical.{image_text}
use Rattle.bpnf.specs.Image.{Image}

-- the place of the letter of a bit in the text of an image whose words have w bits: a frame has `B`, w letters
-- with the highest bit first, `F` and LF
abbrev pub letter_place : ℕ → ℕ → ℕ → ℕ
letter_place w address bit = address * (w + 3) + 1 + (w - 1 - bit)

-- bit b of the word at an address is the letter of bit `b mod w` in frame `address` of the text of image `b div w`
abbrev pub IsSavedBit : ℕ → List ℕ → List Image → ℕ → ℕ → Type 0
IsSavedBit w words images address bit =
    (image : Image) × (slice_get images (bit / w) ≡ Some image)
    × (slice_get (image_text image) (letter_place w address (bit % w)) ≡ Some (letter (bit_at (slice_index words address) bit)))
