-- The grammar: how a text of frames and comments grows, and what it says of its words.

use Rattle.std.proofs.Common.{◌≢◌, ℕ, ◌^◌, ◌<◌, List, [], ◌∷◌, ◌++◌, sym, ap, ◌∙◌, append_assoc}
use Rattle.std.specs.List.{All}
use Rattle.std.proofs.lemmas.List.{append-nil}
use Rattle.std.proofs.lemmas.List.Elements.{All-nil, All-cons, All-push}
use Rattle.bpnf.specs.Frames.{frame, Begins, Shows}

-- a text that begins with a frame, and more after it
begins_append : (bits word : ℕ) (rest text more : List ℕ) → Begins bits word rest text →
    Begins bits word (rest ++ more) (text ++ more)
begins_append bits word rest text more b = record {
  fits = b.fits;
  comment = b.comment;
  before = b.before;
  text_is = ap (λ t. t ++ more) b.text_is ∙ append_assoc b.comment (frame bits word ++ rest) more ∙
      ap (λ t. b.comment ++ t) (append_assoc (frame bits word) rest more);
}

-- one byte more of the last comment
pub shows_comment : (bits : ℕ) (words text : List ℕ) (byte : ℕ) → Shows bits words text → byte ≢ 66 →
    Shows bits words (text ++ byte ∷ [])
unfolding Shows
shows_comment bits [] text byte shown other = All-push (λ (b : ℕ). b ≢ 66) text byte shown other
shows_comment bits (word ∷ words) text byte shown other =
    (shown.0 ++ byte ∷ [], begins_append bits word shown.0 text (byte ∷ []) shown.1, shows_comment bits words shown.0 byte shown.2 other)

-- one frame more
pub shows_frame : (bits : ℕ) (words text : List ℕ) (word : ℕ) → Shows bits words text → word < 2 ^ bits →
    Shows bits (words ++ word ∷ []) (text ++ frame bits word)
unfolding Shows
shows_frame bits [] text word shown lt = (
  [],
  record {
    fits = lt;
    comment = text;
    before = shown;
    text_is =
        ap (λ t. text ++ t) (sym (append-nil (frame bits word)));
  },
  All-nil (λ (b : ℕ). b ≢ 66),
)
shows_frame bits (first ∷ words) text word shown lt = (
  shown.0 ++ frame bits word,
  begins_append bits first shown.0 text (frame bits word) shown.1,
  shows_frame bits words shown.0 word shown.2 lt,
)

-- each word that is shown has these bits
pub shown_fits : (bits : ℕ) (words text : List ℕ) → Shows bits words text → All (λ word. word < 2 ^ bits) words
unfolding Shows
shown_fits bits [] text shown = All-nil (λ (w : ℕ). w < 2 ^ bits)
shown_fits bits (word ∷ words) text shown =
    All-cons (λ (w : ℕ). w < 2 ^ bits) word words shown.1.fits (shown_fits bits words shown.0 shown.2)
