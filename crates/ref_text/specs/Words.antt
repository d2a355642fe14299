-- The words of a refutation line, and the numbers that they stand for. This project's own, after LRAT.

use Rattle.std.specs.Prelude.{ℕ, zero, suc, ◌^◌, ◌==◌, ◌&&◌, not, Bool, true, false, if◌then◌else◌, nat_lt, List, [], ◌∷◌, Option, Some, None}
use Rattle.std.specs.List.{slice_split, list_all}
use Rattle.std.specs.Char.{is_ascii_digit}
use Rattle.std.specs.Str.Parse.{digits_value}
use Rattle.ref_text.specs.declared.words.Signed.{Signed}

-- the words between single spaces; a doubled space, or one at an end, makes an empty word
abbrev pub words_of : List ℕ → List (List ℕ)
words_of line = slice_split (λ b. b == 32) line

-- there is a digit, and no zero stands before others
abbrev pub has_no_leading_zero : List ℕ → Bool
has_no_leading_zero [] = false
has_no_leading_zero (d ∷ []) = true
has_no_leading_zero (d ∷ (e ∷ digits)) = not (d == 48)

-- decimal digits without leading zeros
abbrev pub is_numeral : List ℕ → Bool
is_numeral word = has_no_leading_zero word && list_all is_ascii_digit word

-- the number that a word of digits stands for, where it is at most 2^32 - 1
abbrev pub number_of : List ℕ → Option ℕ
number_of word = if is_numeral word && nat_lt (digits_value 10 word) (2 ^ 32) then Some (digits_value 10 word) else None

-- a number without a minus sign
abbrev pub plain : Option ℕ → Option Signed
plain None = None
plain (Some n) = Some (record { minus = false; size = n })

-- a number with a minus sign, which is not 0
abbrev pub negated : Option ℕ → Option Signed
negated None = None
negated (Some zero) = None
negated (Some (suc n)) = Some (record { minus = true; size = suc n })

-- what a word stands for: a number, or a number that is not 0 behind a minus sign
abbrev pub value_of : List ℕ → Option Signed
value_of [] = None
value_of (b ∷ bs) = if b == 45 then negated (number_of bs) else plain (number_of (b ∷ bs))

-- a value before further ones, where each word has one
abbrev pub with_value : Option Signed → Option (List Signed) → Option (List Signed)
with_value None values = None
with_value (Some value) None = None
with_value (Some value) (Some values) = Some (value ∷ values)

-- what the words stand for, where each stands for something
unfoldable pub values_of : List (List ℕ) → Option (List Signed)
values_of [] = Some []
values_of (word ∷ words) = with_value (value_of word) (values_of words)
