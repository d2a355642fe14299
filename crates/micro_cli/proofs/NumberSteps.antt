-- What `parse` gives of digits, and what stands after a key.
use Rattle.std.proofs.Common.{ℕ, ◌≡◌, ◌≢◌, ◌<◌, ◌≤◌, ◌^◌, inl, inr, ◌++◌, ◌&&◌, Bool, true, false, List, [], ◌∷◌, length, take, drop, None, Result, Err, refl, sym, ap, ◌∙◌}
use Rattle.std.specs.Char.{is_ascii_digit}
use Rattle.std.specs.List.{list_all}
use Rattle.std.specs.Result.{OkIff}
use Rattle.std.specs.Str.{bytes_eq, all_ascii_digits}
use Rattle.std.specs.Str.Parse.{digits_value, ParsesUnsigned}
use Rattle.std.proofs.Math.Seq.{take-append_seam}
use Rattle.std.proofs.lemmas.Bool.{cases_lt}
use Rattle.std.proofs.lemmas.List.{take-append-drop}
use Rattle.std.proofs.lemmas.Slice.Eq.{bytes_eq-Decides}
use Rattle.std.proofs.lemmas.Str.Parse.{parse_digits, numerals_by_value, tells_all_ascii_digits}
use Rattle.micro_cli.specs.Command.{number_up_to, number_after}

-- digits one by one
all_digits : (ds : List ℕ) → all_ascii_digits ds ≡ list_all is_ascii_digit ds
all_digits [] = refl
all_digits (c ∷ cs) = ap (λ b. is_ascii_digit c && b) (all_digits cs)

-- digits are parsed as the number that they write, where it has at most 64 bits
parse_number : {E : Type 0} → (ds : List ℕ) (r : Result ℕ E) → ParsesUnsigned 64 10 ds r → list_all is_ascii_digit ds ≡ true
    → OkIff r ((0 < length ds) × (digits_value 10 ds < 2 ^ 64)) (digits_value 10 ds)
parse_number ds r parses digits =
    parse_digits (numerals_by_value (λ xs. all_ascii_digits xs ≡ true) tells_all_ascii_digits) 64 ds r parses (all_digits ds ∙ digits)

-- digits that are not parsed write a number of more bits
pub parse_wide : {E : Type 0} → (ds : List ℕ) (e : E) → ParsesUnsigned 64 10 ds (Err e) → list_all is_ascii_digit ds ≡ true
    → 0 < length ds → 2 ^ 64 ≤ digits_value 10 ds
parse_wide ds e parses digits some = elim (cases_lt (digits_value 10 ds) (2 ^ 64)) [
  | inl small ↦ absurd (parse_number ds (Err e) parses digits (some, small))
  | inr wide ↦ wide
]

drop_key : (key rest : List ℕ) → drop (length key) (key ++ rest) ≡ rest
drop_key [] rest = refl
drop_key (k ∷ key) rest = drop_key key rest

-- a word that is the key and more
pub number_after_there : (key : List ℕ) (limit : ℕ) (word rest : List ℕ) → word ≡ key ++ rest
    → number_after key limit word ≡ number_up_to limit rest
number_after_there key limit word rest e =
    let same : bytes_eq key (take (length key) word) ≡ true =
    (bytes_eq-Decides key (take (length key) word)).1 (sym (ap (take (length key)) e ∙ take-append_seam key rest)) in
    let left : drop (length key) word ≡ rest = ap (drop (length key)) e ∙ drop_key key rest in
    rw (same, left) refl

-- a word that does not begin with the key
pub number_after_absent : (key : List ℕ) (limit : ℕ) (word : List ℕ) → ((rest : List ℕ) → word ≢ key ++ rest)
    → number_after key limit word ≡ None
number_after_absent key limit word lacks = go (bytes_eq key (take (length key) word)) refl
  where
    go : (b : Bool) → bytes_eq key (take (length key) word) ≡ b → number_after key limit word ≡ None
    go true e =
        let begins : key ≡ take (length key) word = (bytes_eq-Decides key (take (length key) word)).0 e in
        absurd (lacks (drop (length key) word)
        (sym (take-append-drop (length key) word) ∙ ap (λ front. front ++ drop (length key) word) (sym begins)))
    go false e = rw e refl
