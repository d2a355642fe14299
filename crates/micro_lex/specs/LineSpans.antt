-- Where a line lies in its text.
use Rattle.std.specs.Prelude.{◌≡◌, ℕ, ◌-◌, ◌<◌, ◌≤◌, ◌⊎◌, List, ◌∷◌, length, drop, slice_index, slice_range}
use Rattle.micro_lex.specs.declared.lines.LineSpan.{LineSpan}
use Rattle.micro_lex.specs.Lines.{lines}

-- the span is the first line of the text from this place on, and the others follow it
pub record IsLineAt (bytes : List ℕ) (at : ℕ) (span : LineSpan) : Type 0 where
  pub start : span.start ≡ at
  pub ordered : span.start ≤ span.end
  pub within : span.end ≤ length bytes
  pub goes_on : at < span.after
  pub after : span.after ≤ length bytes
  -- the line ends with its LF, or with the text
  pub ended : (span.after ≡ length bytes) ⊎ (slice_index bytes (span.after - 1) ≡ 10)
  pub cut : lines (drop at bytes) ≡ slice_range bytes span.start span.end ∷ lines (drop span.after bytes)
