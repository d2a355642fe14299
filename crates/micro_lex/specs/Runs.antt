-- What a run is: a number, a name, or faulty (this project's own choice).
use Rattle.std.specs.Prelude.{ℕ, ◌^◌, Bool, ◌&&◌, ◌==◌, nat_lt, if◌then◌else◌, List, length, drop, slice_index, Result, Ok, Err}
use Rattle.std.specs.List.{list_all}
use Rattle.std.specs.Char.{is_ascii_digit, is_ascii_hexdigit}
use Rattle.std.specs.Str.Parse.{digits_value}
use Rattle.micro_lex.specs.declared.token.TokenKind.{TokenKind}
use Rattle.micro_lex.specs.declared.token.TokenKind.TheVariants.{Name, Number}
use Rattle.micro_lex.specs.Faults.{Cause, BadNumber, NumberTooWide, NameTooLong}

-- the number that the digits stand for, leading zeros allowed; it ends at 128 bits
abbrev pub number_kind : ℕ → List ℕ → Result TokenKind Cause
number_kind radix digits =
    if nat_lt (digits_value radix digits) (2 ^ 128) then Ok (Number (digits_value radix digits)) else Err NumberTooWide

-- `0x` and at least one hexadecimal digit, in either case
abbrev pub is_hexadecimal : List ℕ → Bool
is_hexadecimal run =
    nat_lt 2 (length run) && slice_index run 0 == 48 && slice_index run 1 == 120 && list_all is_ascii_hexdigit (drop 2 run)

-- a run that begins with a digit is a number or faulty; any other is a name of at most 32 bytes
unfoldable pub run_kind : List ℕ → Result TokenKind Cause
run_kind run =
    if is_ascii_digit (slice_index run 0) then
    (if list_all is_ascii_digit run then number_kind 10 run
    else if is_hexadecimal run then number_kind 16 (drop 2 run)
    else Err BadNumber)
    else if nat_lt 32 (length run) then Err NameTooLong
    else Ok Name
