-- The form of a refutation line: a number, literals, 0, hints, 0. It is said of a whole line without its LF, by its
-- words. This project's own, after LRAT.

use Rattle.std.specs.Prelude.{ℕ, ℤ, pos, neg_ℤ, ◌==◌, ◌&&◌, not, Bool, true, false, if◌then◌else◌, nat_lt, List, [], ◌∷◌, length, map, Option, Some, None}
use Rattle.std.specs.List.{list_all, position_or_len, before_first, after_first}
use Rattle.clause_base.specs.declared.line.Line.{Line}
use Rattle.ref_text.specs.declared.words.Signed.{Signed}
use Rattle.ref_text.specs.Words.{words_of, values_of}

-- a line as it is written, with its number
pub record Written : Type 0 where
  pub number : ℕ
  pub line : Line

-- the value is 0
abbrev pub is_zero : Signed → Bool
is_zero value = value.size == 0

-- no minus sign stands before it
abbrev pub is_plain : Signed → Bool
is_plain value = not value.minus

-- the literal that a value writes
abbrev pub literal_of : Signed → ℤ
literal_of value = if value.minus then neg_ℤ (pos value.size) else pos value.size

-- the number without its sign
abbrev pub size_of : Signed → ℕ
size_of value = value.size

-- a 0 is among the values
abbrev pub has_zero : List Signed → Bool
has_zero values = nat_lt (position_or_len is_zero values) (length values)

-- the line of this number with these values behind it: literals, 0, hints without signs, 0, and nothing more; none
-- where they are not so
abbrev pub line_in : ℕ → List Signed → Option Written
line_in number values =
    if has_zero values && has_zero (after_first is_zero values)
    && (length (after_first is_zero (after_first is_zero values)) == 0)
    && list_all is_plain (before_first is_zero (after_first is_zero values))
    then Some (record {
      number = number;
      line = record {
        clause = map literal_of (before_first is_zero values);
        hints = map size_of (before_first is_zero (after_first is_zero values));
      };
    })
    else None

-- the values of words, if each has one
abbrev pub if_all : Bool → List Signed → Option (List Signed)
if_all true values = Some values
if_all false values = None

-- the line that these values write, of which the first is its number and has no sign
abbrev pub written_in : Option (List Signed) → Option Written
written_in None = None
written_in (Some []) = None
written_in (Some (number ∷ values)) = if number.minus then None else line_in number.size values

-- what a line says, or none where it is not of the form
unfoldable pub form : List ℕ → Option Written
form line = written_in (values_of (words_of line))
