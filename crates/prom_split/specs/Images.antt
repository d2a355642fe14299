-- The PROM images of microwords, bit by bit (this project's own choice).
use Rattle.std.specs.Prelude.{ℕ, ◌≡◌, ◌<◌, ◌≤◌, ◌/◌, ◌%◌, ◌^◌, List, [], length, Option, Some, None, slice_get, slice_index}
use Rattle.std.specs.List.{All}
use Rattle.std.specs.Int.{bit_at}
use Rattle.bpnf.specs.Image.{Image, IsImage}
use Rattle.field_decl.specs.Declaration.{Declaration}
use Rattle.field_decl.specs.Decls.{proms_for}
use Rattle.prom_split.specs.Parts.{width_of}

-- 512 words, each below the power of two of a declaration's width
pub record FitWords (decl : Declaration) (words : List ℕ) : Type 0 where
  pub count : length words ≡ 512
  pub fit : All (λ word. word < 2 ^ width_of decl) words

-- how many images the words of a declaration have
abbrev pub image_count : Declaration → ℕ
image_count decl = proms_for (width_of decl) decl.prom_bits

-- the words of an image, and none where there is no image
abbrev pub words_in : Option Image → List ℕ
words_in None = []
words_in (Some image) = image.words

-- where the images show a bit of the word at an address: in image `bit div w`, whose words have w bits, it is
-- bit `bit mod w` of the word at that address
abbrev pub shown_bit : ℕ → List Image → ℕ → ℕ → ℕ
shown_bit w images address bit = bit_at (slice_index (words_in (slice_get images (bit / w))) address) (bit % w)

-- the images show each bit of the words, up to the width
abbrev pub ShowBits : Declaration → List ℕ → List Image → Type 0
ShowBits decl words images =
    (address bit : ℕ) → address < 512 → bit < width_of decl
    → shown_bit decl.prom_bits images address bit ≡ bit_at (slice_index words address) bit

-- images of words of these bits
abbrev pub HaveBits : ℕ → List Image → Type 0
HaveBits bits images = (k : ℕ) (image : Image) → slice_get images k ≡ Some image → IsImage image × (image.bits ≡ bits)

-- as many images as the words have, of the declared bits
pub record FitImages (decl : Declaration) (images : List Image) : Type 0 where
  pub count : length images ≡ image_count decl
  pub each : HaveBits decl.prom_bits images

-- the images that are written for these words: bits past the width are 0
pub record AreImages (decl : Declaration) (words : List ℕ) (images : List Image) : Type 0 where
  pub fit : FitImages decl images
  pub shown : ShowBits decl words images
  pub past : (address bit : ℕ) → address < 512 → width_of decl ≤ bit → shown_bit decl.prom_bits images address bit ≡ 0

-- the words that are read from these images: bits past the width are ignored
pub record AreJoined (decl : Declaration) (images : List Image) (words : List ℕ) : Type 0 where
  pub images_fit : FitImages decl images
  pub words_fit : FitWords decl words
  pub shown : ShowBits decl words images
