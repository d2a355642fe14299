-- A printed number is read as itself.
use Rattle.std.proofs.Common.{◌≡◌, ℕ, zero, suc, ℤ, pos, negsuc, ◌<◌, ◌^◌, ◌==◌, Bool, true, false, not, List, [], ◌∷◌, length, get_or, Some, None, refl, ap, ◌∙◌, rules, arith}
use Rattle.std.specs.Prelude.{All, nat_lt, decimal}
use Rattle.std.specs.Bool.{if◌then◌else◌}
use Rattle.std.specs.List.{list_all}
use Rattle.std.specs.Char.{is_ascii_digit}
use Rattle.std.specs.Fmt.{signed_decimal}
use Rattle.std.specs.Str.Parse.{digits_value}
use Rattle.std.proofs.lemmas.Bool.{and_parts, and_from}
use Rattle.std.proofs.lemmas.Bool.Decides.{nat_tests}
use Rattle.std.proofs.lemmas.List.Elements.{All-cons}
use Rattle.std.proofs.lemmas.Fmt.{decimal_digit, decimal_nonempty, first_decimal, digits_decimal, digits_value-decimal}
use Rattle.std.proofs.lemmas.Str.Parse.{IsNumeralModel, numerals_by_value}
use Rattle.clause_base.specs.Lit.{var_of}
use Rattle.ref_text.specs.declared.words.Signed.{Signed}
use Rattle.ref_text.specs.Words.{has_no_leading_zero, is_numeral, number_of, plain, negated, value_of}

-- every byte of a text is a digit
abbrev pub AreDigits : List ℕ → Type 0
AreDigits ds = list_all is_ascii_digit ds ≡ true

own : IsNumeralModel AreDigits (digits_value 10)
own = numerals_by_value AreDigits (search rules)

pub decimal_digits : (n : ℕ) → n < 2 ^ 32 → AreDigits (decimal n)
decimal_digits n small = digits_decimal own n (omega arith)

pub decimal_value : (n : ℕ) → n < 2 ^ 32 → digits_value 10 (decimal n) ≡ n
decimal_value n small = digits_value-decimal own n (omega arith)

led : (ds : List ℕ) → 48 < get_or ds 0 0 → has_no_leading_zero ds ≡ true
led [] h = absurd (omega arith)
led (d ∷ []) h = refl
led (d ∷ (e ∷ ds)) h = let other : (d == 48) ≡ false = grind (arith, nat_tests) in ap not other

decimal_led : (n : ℕ) → n < 2 ^ 32 → has_no_leading_zero (decimal n) ≡ true
decimal_led zero small = ap has_no_leading_zero (decimal_digit 0 (omega arith))
decimal_led (suc n) small = led (decimal (suc n)) (first_decimal (suc n) (omega arith) (omega arith))

pub decimal_numeral : (n : ℕ) → n < 2 ^ 32 → is_numeral (decimal n) ≡ true
decimal_numeral n small =
    and_from (has_no_leading_zero (decimal n)) (list_all is_ascii_digit (decimal n)) (decimal_led n small) (decimal_digits n small)

-- the number of a word of digits
number_is : (word : List ℕ) (n : ℕ) → is_numeral word ≡ true → digits_value 10 word ≡ n → n < 2 ^ 32 → number_of word ≡ Some n
number_is word n numeral value small =
    let fits : nat_lt (digits_value 10 word) (2 ^ 32) ≡ true = rw value (grind (arith, nat_tests)) in
    ap (λ (b : Bool). if b then Some (digits_value 10 word) else None) (and_from _ _ numeral fits) ∙ ap Some value

pub decimal_number : (n : ℕ) → n < 2 ^ 32 → number_of (decimal n) ≡ Some n
decimal_number n small = number_is (decimal n) n (decimal_numeral n small) (decimal_value n small) small

-- a digit is no minus sign, no space and no LF
digit_other : (b c : ℕ) → is_ascii_digit b ≡ true → c < 48 → (b == c) ≡ false
digit_other b c digit low = grind (arith, nat_tests)

-- a word of digits is read without a sign
digits_plain : (word : List ℕ) (n : ℕ) → AreDigits word → 0 < length word → number_of word ≡ Some n
    → value_of word ≡ Some (record { minus = false; size = n })
digits_plain [] n digits some is = absurd (omega arith)
digits_plain (b ∷ bs) n digits some is =
    let p = and_parts (is_ascii_digit b) (list_all is_ascii_digit bs) digits in
    ap (λ (t : Bool). if t then negated (number_of bs) else plain (number_of (b ∷ bs))) (digit_other b 45 p.0 (omega arith)) ∙ ap plain is

-- a printed number is read
pub decimal_read : (n : ℕ) → n < 2 ^ 32 → value_of (decimal n) ≡ Some (record { minus = false; size = n })
decimal_read n small = digits_plain (decimal n) n (decimal_digits n small) (decimal_nonempty n (omega arith)) (decimal_number n small)

-- how a literal is read
abbrev pub signed_of : ℤ → Signed
signed_of (pos n) = record { minus = false; size = n }
signed_of (negsuc n) = record { minus = true; size = suc n }

-- a printed literal is read
pub literal_read : (z : ℤ) → var_of z < 2 ^ 32 → value_of (signed_decimal z) ≡ Some (signed_of z)
literal_read (pos n) small = decimal_read n small
literal_read (negsuc n) small = ap negated (decimal_number (suc n) small)

-- digits hold no byte below theirs
pub digits_pass : (c : ℕ) → c < 48 → (ds : List ℕ) → AreDigits ds → All (λ b. (b == c) ≡ false) ds
digits_pass c low [] digits k d lt = absurd (omega arith)
digits_pass c low (b ∷ bs) digits zero d lt = let p = and_parts (is_ascii_digit b) (list_all is_ascii_digit bs) digits in
    digit_other b c p.0 low
digits_pass c low (b ∷ bs) digits (suc k) d lt = let p = and_parts (is_ascii_digit b) (list_all is_ascii_digit bs) digits in
    digits_pass c low bs p.1 k d (omega arith)

pub decimal_pass : (c n : ℕ) → c < 48 → n < 2 ^ 32 → All (λ b. (b == c) ≡ false) (decimal n)
decimal_pass c n low small = digits_pass c low (decimal n) (decimal_digits n small)

-- a printed literal holds no byte below its digits but for its sign
pub literal_pass : (c : ℕ) (z : ℤ) → c < 45 → var_of z < 2 ^ 32 → All (λ b. (b == c) ≡ false) (signed_decimal z)
literal_pass c (pos n) low small = decimal_pass c n (omega arith) small
literal_pass c (negsuc n) low small =
    let sign : (45 == c) ≡ false = grind (arith, nat_tests) in
    All-cons (λ b. (b == c) ≡ false) 45 (decimal (suc n)) sign (decimal_pass c (suc n) (omega arith) small)
