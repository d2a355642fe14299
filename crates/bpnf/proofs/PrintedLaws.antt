-- The canonical text is a text of the grammar.

use Rattle.std.proofs.Common.{◌≢◌, ℕ, ◌^◌, ◌<◌, List, [], ◌∷◌, Ok, refl, arith}
use Rattle.std.specs.List.{All}
use Rattle.std.proofs.lemmas.List.Elements.{All-nil, All-cons, All-head, All-tail}
use Rattle.bpnf.specs.Canonical.{frames_of, image_text}
use Rattle.bpnf.specs.FirstFault.{Reads}
use Rattle.bpnf.specs.Frames.{Shows}
use Rattle.bpnf.specs.Image.{Image, IsImage}

-- an LF is a comment
line_feed : All (λ (b : ℕ). b ≢ 66) (10 ∷ [])
line_feed = All-cons (λ (b : ℕ). b ≢ 66) 10 [] (omega arith) (All-nil (λ (b : ℕ). b ≢ 66))

-- the frames that follow a frame's LF
after_frame : (bits : ℕ) (words : List ℕ) → All (λ word. word < 2 ^ bits) words →
    Shows bits words (10 ∷ frames_of bits words)
unfolding Shows frames_of
after_frame bits [] fits = line_feed
after_frame bits (word ∷ words) fits = (
  10 ∷ frames_of bits words,
  record {
    fits = All-head (λ (w : ℕ). w < 2 ^ bits) word words fits;
    comment = 10 ∷ [];
    before = line_feed;
    text_is =
        refl;
  },
  after_frame bits words (All-tail (λ (w : ℕ). w < 2 ^ bits) word words fits),
)

-- the frames of words, each with its LF, show the words
frames_shown : (bits : ℕ) (words : List ℕ) → All (λ word. word < 2 ^ bits) words →
    Shows bits words (frames_of bits words)
unfolding Shows frames_of
frames_shown bits [] fits = All-nil (λ (b : ℕ). b ≢ 66)
frames_shown bits (word ∷ words) fits = (
  10 ∷ frames_of bits words,
  record {
    fits = All-head (λ (w : ℕ). w < 2 ^ bits) word words fits;
    comment = [];
    before = All-nil (λ (b : ℕ). b ≢ 66);
    text_is =
        refl;
  },
  after_frame bits words (All-tail (λ (w : ℕ). w < 2 ^ bits) word words fits),
)

-- the canonical text of an image is read as that image
pub printed_is_read : (image : Image) → IsImage image → Reads image.bits 512 (image_text image) (Ok image.words)
printed_is_read image is = (frames_shown image.bits image.words is.fits, is.many)
