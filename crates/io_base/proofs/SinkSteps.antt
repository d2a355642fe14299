-- What a sink holds after some of a piece was written.
use Rattle.std.proofs.Common.{ℕ, ◌≡◌, ◌++◌, List, length, IsTrue, sym, ap, ◌∙◌}
use Rattle.std.proofs.Math.Seq.{take-append_seam}
use Rattle.io_base.specs.Sink.{SinkState, SinkGoesOn, AddsPrefix}

-- a write that failed leaves the front of the piece that was written before it
pub prefix_added : (start now new : SinkState) (piece rest : List ℕ) → SinkGoesOn start now →
    (IsTrue start.tells → (done : List ℕ) × (piece ≡ done ++ rest) × (now.bytes ≡ start.bytes ++ done)) →
    (IsTrue now.tells → new.bytes ≡ now.bytes) → AddsPrefix start new piece
prefix_added start now new piece rest goes_on told stays = λ t.
    let front = told t in (
      length front.0,
      stays (goes_on.tells ∙ t) ∙ front.2
          ∙ ap (λ (p : List ℕ). start.bytes ++ p) (sym (rw front.1 (take-append_seam front.0 rest))),
    )
