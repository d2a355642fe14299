-- A run that is read as a name has the bytes of a name.
use Rattle.std.proofs.Common.{◌≡◌, ℕ, ◌<◌, Bool, true, false, cond, List, [], ◌∷◌, length, drop, Result, Ok, Err, refl, ltb, inl, inr}
use Rattle.std.specs.Char.{is_ascii_digit}
use Rattle.std.specs.List.{list_all}
use Rattle.std.specs.Cmp.Derive.{both_true}
use Rattle.std.specs.Prelude.{slice_index, take_while}
use Rattle.std.specs.Str.Parse.{digits_value}
use Rattle.std.proofs.lemmas.Bool.{cases_Bool, ltb-false}
use Rattle.std.proofs.lemmas.List.Sums.{take_while-cons}
use Rattle.micro_lex.specs.declared.token.TokenKind.{TokenKind}
use Rattle.micro_lex.specs.declared.token.TokenKind.TheVariants.{Name, Number}
use Rattle.micro_lex.specs.Alphabet.{is_run_byte}
use Rattle.micro_lex.specs.Faults.{Cause, BadNumber, NumberTooWide, NameTooLong}
use Rattle.micro_lex.specs.Names.{IsName}
use Rattle.micro_lex.specs.Runs.{number_kind, is_hexadecimal, run_kind}

abbrev IsNamed : Result TokenKind Cause → Type 0
IsNamed kind = kind ≡ Ok Name

-- a number is no name
no_number : (fits : Bool) (n : ℕ) → IsNamed (cond fits (Ok (Number n)) (Err NumberTooWide)) → ⊥
no_number true n e = cc
no_number false n e = cc

-- of the tests of a run, a name passes neither
tests_failed : (digit digits hexadecimal long : Bool) (decimal other : Result TokenKind Cause) → (IsNamed decimal → ⊥)
    → (IsNamed other → ⊥)
    → IsNamed (cond digit (cond digits decimal (cond hexadecimal other (Err BadNumber))) (cond long (Err NameTooLong) (Ok Name)))
    → (digit ≡ false) × (long ≡ false)
tests_failed true true hexadecimal long decimal other no_decimal no_other e = absurd (no_decimal e)
tests_failed true false true long decimal other no_decimal no_other e = absurd (no_other e)
tests_failed true false false long decimal other no_decimal no_other e = absurd cc
tests_failed false digits hexadecimal true decimal other no_decimal no_other e = absurd cc
tests_failed false digits hexadecimal false decimal other no_decimal no_other e = (refl, refl)

-- a run that is a name begins with no digit and is not too long
name_tests : (run : List ℕ) → run_kind run ≡ Ok Name → (is_ascii_digit (slice_index run 0) ≡ false) × (ltb 32 (length run) ≡ false)
unfolding run_kind
name_tests run e =
    tests_failed (is_ascii_digit (slice_index run 0)) (list_all is_ascii_digit run) (is_hexadecimal run) (ltb 32 (length run))
    (number_kind 10 run) (number_kind 16 (drop 2 run))
    (no_number (ltb (digits_value 10 run) 340282366920938463463374607431768211456) (digits_value 10 run))
    (no_number (ltb (digits_value 16 (drop 2 run)) 340282366920938463463374607431768211456) (digits_value 16 (drop 2 run)))
    e

-- a run has bytes of runs alone
pub run_is_plain : (bs : List ℕ) → list_all is_run_byte (take_while is_run_byte bs) ≡ true
run_is_plain [] = refl
run_is_plain (b ∷ bs) = elim (cases_Bool (is_run_byte b)) [
  | inl w ↦ rw (take_while-cons is_run_byte b bs, w) (both_true w (run_is_plain bs))
  | inr w ↦ rw (take_while-cons is_run_byte b bs, w) refl
]

-- a run that is read as a name is one
pub run_is_name : (bs : List ℕ) → 0 < length (take_while is_run_byte bs) → run_kind (take_while is_run_byte bs) ≡ Ok Name
    → IsName (take_while is_run_byte bs)
run_is_name bs some e =
    let tests = name_tests (take_while is_run_byte bs) e in
    record { some = some; short = ltb-false 32 (length (take_while is_run_byte bs)) tests.1; plain = run_is_plain bs; begins = tests.0 }
