-- The text of an image is short.
use Rattle.std.proofs.Common.{ℕ, ◌≡◌, ◌+◌, ◌*◌, ◌≤◌, inl, inr, List, [], ◌∷◌, length, ap, ◌∙◌, arith, length-append}
use Rattle.bpnf.specs.Frames.{letters_of, frame}
use Rattle.bpnf.specs.Canonical.{frames_of, image_text}
use Rattle.bpnf.specs.Image.{Image, IsImage, IsWidth}
use Rattle.bpnf.proofs.LetterLaws.{length-letters_of}

frames_length : (bits : ℕ) (words : List ℕ) → length (frames_of bits words) ≡ length words * (bits + 3)
unfolding frames_of
frames_length bits [] = omega arith
frames_length bits (word ∷ words) =
    let letters = length-letters_of bits word in
    let ended = length-append (letters_of bits word) (70 ∷ []) in
    let whole = length-append (frame bits word) (10 ∷ frames_of bits words) in
    let rest = frames_length bits words in
    omega (arith, letters, ended, whole, rest)

-- the text of an image has at most 512 frames of 11 bytes
pub image_short : (image : Image) → IsImage image → length (image_text image) ≤ 65536
image_short image is = go is.width
  where
    size : length (image_text image) ≡ length image.words * (image.bits + 3)
    size = frames_length image.bits image.words

    go : IsWidth image.bits → length (image_text image) ≤ 65536
    go (inl four) = omega (arith, size ∙ ap (λ (n : ℕ). n * (image.bits + 3)) is.many, four)
    go (inr eight) = omega (arith, size ∙ ap (λ (n : ℕ). n * (image.bits + 3)) is.many, eight)
