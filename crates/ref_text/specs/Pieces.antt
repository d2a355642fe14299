-- A text that comes in pieces, byte by byte: what a reader tells does not depend on where the pieces are cut. The laws
-- of the crate tie this to whole lines and to the calls of `feed`.

use Rattle.std.specs.Prelude.{ℕ, ◌+◌, ◌≡◌, ◌==◌, Bool, true, false, if◌then◌else◌, List, [], ◌∷◌, take, Option, Some, None}
use Rattle.ref_text.specs.Form.{form}
use Rattle.ref_text.specs.Fault.{text_fault, line_of, is_empty}
use Rattle.ref_text.specs.Reading.{Reader, with_bytes, at_end, told}
use Rattle.ref_text.specs.declared.why.Why.{Why}
use Rattle.ref_text.specs.declared.events.Event.{Event}
use Rattle.ref_text.specs.declared.events.Event.TheVariants as event
use Rattle.ref_text.specs.declared.events.Fed.{Fed}

-- after one more byte; a reader that has refused a line stays as it is
abbrev pub on : Option Why → Reader → ℕ → Reader
on None r b = if b == 10 then at_end r else with_bytes r (b ∷ [])
on (Some why) r b = r

-- after more bytes
unfoldable pub after : Reader → List ℕ → Reader
after r [] = r
after r (b ∷ bs) = after (on r.bad r b) bs

-- what one more byte brings, and what the further bytes bring
abbrev pub events_at : Option Why → Bool → Reader → List Event → List Event
events_at (Some why) lf r further = []
events_at None true r further = told r.count (at_end r).bad ∷ further
events_at None false r further = further

-- what bytes bring: a line or a refusal at each LF, until a line is refused
unfoldable pub events : Reader → List ℕ → List Event
events r [] = []
events r (b ∷ bs) = events_at r.bad (b == 10) r (events (on r.bad r b) bs)

-- what one call brings
abbrev pub brought : Event → List Event
brought event.More = []
brought told = told ∷ []

-- a call uses bytes of a piece and tells just what these bring
pub record IsFed (old : Reader) (piece : List ℕ) (new : Reader) (fed : Fed) : Type 0 where
  pub reader : new ≡ after old (take fed.used piece)
  pub tells : old.bad ≡ None → events old (take fed.used piece) ≡ brought fed.event

-- a refusal, which is the last that is told; or a line, and what the further lines bring
abbrev pub or_further : ℕ → Option Why → List Event → List Event
or_further count None further = event.Line ∷ further
or_further count (Some why) further = event.Bad (count + 1) why ∷ []

-- what the whole lines of a text bring, where so many lines were read before; behind the last LF nothing is told
unfoldable pub lines_bring : ℕ → ℕ → ℕ → Bool → List (List ℕ) → List Event
lines_bring number vars count over [] = []
lines_bring number vars count over (rest ∷ []) = []
lines_bring number vars count over (line ∷ (next ∷ parts)) =
    or_further count (text_fault number vars over line)
    (lines_bring (number + 1) vars (count + 1) (is_empty (line_of (form line))) (next ∷ parts))
