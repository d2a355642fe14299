-- A printed line is one line, and is read as itself.
use Rattle.std.proofs.Common.{◌≡◌, ℕ, zero, suc, ℤ, pos, negsuc, ◌+◌, ◌<◌, ◌^◌, ◌==◌, Bool, true, false, List, [], ◌∷◌, ◌++◌, length, map, take, drop, Option, Some, None, refl, ap, ◌∙◌, append_assoc, add-one, arith}
use Rattle.std.specs.Prelude.{◌&&◌, All, codes, decimal, flat_map}
use Rattle.std.specs.Bool.{if◌then◌else◌}
use Rattle.std.specs.List.{list_all, position_or_len, before_first, after_first}
use Rattle.std.specs.Fmt.{signed_decimal}
use Rattle.std.proofs.lemmas.Bool.Decides.{nat_tests}
use Rattle.std.proofs.lemmas.List.Elements.{All-append, All-nil}
use Rattle.std.proofs.lemmas.List.Splits.{slice_split_at}
use Rattle.clause_base.specs.Lit.{var_of}
use Rattle.clause_base.specs.declared.line.Line.{Line}
use Rattle.ref_text.specs.declared.words.Signed.{Signed}
use Rattle.ref_text.specs.Words.{words_of, value_of, with_value, values_of}
use Rattle.ref_text.specs.Form.{is_zero, is_plain, literal_of, size_of, has_zero, Written, written_in, form}
use Rattle.ref_text.specs.Text.{number_word, literal_word, line_text}
use Rattle.ref_text.specs.Printed.{CanBeRead, SaysLine}
use Rattle.ref_text.proofs.WordLemmas.{onto, onto_none}
use Rattle.ref_text.proofs.NumeralLemmas.{decimal_read, signed_of, literal_read, decimal_pass, literal_pass}

-- the values of a text of words
abbrev read : List ℕ → Option (List Signed)
read bytes = values_of (words_of bytes)

-- a first word with the space behind it
word_first : (word rest : List ℕ) (value : Signed) → All (λ b. (b == 32) ≡ false) word → value_of word ≡ Some value →
    read ((word ++ codes " ") ++ rest) ≡ with_value (Some value) (read rest)
unfolding values_of
word_first word rest value pass is =
    ap read (append_assoc word (32 ∷ []) rest)
    ∙ ap values_of (slice_split_at (λ b. b == 32) word 32 rest pass refl)
    ∙ ap (λ (o : Option Signed). with_value o (read rest)) is

number_first : (n : ℕ) (rest : List ℕ) → n < 2 ^ 32
    → read (number_word n ++ rest) ≡ with_value (Some (record { minus = false; size = n })) (read rest)
number_first n rest small =
    word_first (decimal n) rest (record { minus = false; size = n }) (decimal_pass 32 n (omega arith) small) (decimal_read n small)

literal_first : (z : ℤ) (rest : List ℕ) → var_of z < 2 ^ 32 → read (literal_word z ++ rest) ≡ with_value (Some (signed_of z)) (read rest)
literal_first z rest small =
    word_first (signed_decimal z) rest (signed_of z) (literal_pass 32 z (omega arith) small) (literal_read z small)

-- the value of a number without a sign
abbrev unsigned : ℕ → Signed
unsigned n = record { minus = false; size = n }

onto_cons : (value : Signed) (values : List Signed) (o : Option (List Signed))
    → with_value (Some value) (onto values o) ≡ onto (value ∷ values) o
onto_cons value values None = refl
onto_cons value values (Some more) = refl

literals_first : (zs : List ℤ) (rest : List ℕ) → All (λ z. (0 < var_of z) × (var_of z < 2 ^ 32)) zs →
    read (flat_map literal_word zs ++ rest) ≡ onto (map signed_of zs) (read rest)
literals_first [] rest all = onto_none (read rest)
literals_first (z ∷ zs) rest all =
    ap read (append_assoc (literal_word z) (flat_map literal_word zs) rest)
    ∙ literal_first z (flat_map literal_word zs ++ rest) (all 0 z (omega arith)).1
    ∙ ap (with_value (Some (signed_of z))) (literals_first zs rest (λ k d lt. all (suc k) d (omega arith)))
    ∙ onto_cons (signed_of z) (map signed_of zs) (read rest)

numbers_first : (ns : List ℕ) (rest : List ℕ) → All (λ n. (0 < n) × (n < 2 ^ 32)) ns →
    read (flat_map number_word ns ++ rest) ≡ onto (map unsigned ns) (read rest)
numbers_first [] rest all = onto_none (read rest)
numbers_first (n ∷ ns) rest all =
    ap read (append_assoc (number_word n) (flat_map number_word ns) rest)
    ∙ number_first n (flat_map number_word ns ++ rest) (all 0 n (omega arith)).1
    ∙ ap (with_value (Some (unsigned n))) (numbers_first ns rest (λ k d lt. all (suc k) d (omega arith)))
    ∙ onto_cons (unsigned n) (map unsigned ns) (read rest)

-- a line's text without its LF
abbrev body_of : ℕ → Line → List ℕ
body_of number line =
    number_word number ++ (flat_map literal_word line.clause ++ (codes "0 " ++ (flat_map number_word line.hints ++ codes "0")))

-- the 0 at the end
last_zero : read (codes "0") ≡ Some (unsigned 0 ∷ [])
unfolding values_of
last_zero = refl

middle_zero : (rest : List ℕ) → read (codes "0 " ++ rest) ≡ with_value (Some (unsigned 0)) (read rest)
unfolding values_of
middle_zero rest = ap values_of (slice_split_at (λ b. b == 32) (48 ∷ []) 32 rest (λ k d lt. by k d lt) refl)
  where
    by : All (λ b. (b == 32) ≡ false) (48 ∷ [])
    by zero d lt = refl
    by (suc k) d lt = absurd (omega arith)

-- the values of a line
abbrev values : ℕ → Line → List Signed
values number line = unsigned number ∷ (map signed_of line.clause ++ (unsigned 0 ∷ (map unsigned line.hints ++ (unsigned 0 ∷ []))))

body_read : (number : ℕ) (line : Line) → CanBeRead number line → read (body_of number line) ≡ Some (values number line)
body_read number line can =
    let hints : read (flat_map number_word line.hints ++ codes "0") ≡ Some (map unsigned line.hints ++ (unsigned 0 ∷ [])) =
    numbers_first line.hints (codes "0") can.hints ∙ ap (onto (map unsigned line.hints)) last_zero in
    let behind : read (codes "0 " ++ (flat_map number_word line.hints ++ codes "0")) ≡ Some
    (unsigned 0 ∷ (map unsigned line.hints ++ (unsigned 0 ∷ []))) =
    middle_zero (flat_map number_word line.hints ++ codes "0") ∙ ap (with_value (Some (unsigned 0))) hints in
    number_first number (flat_map literal_word line.clause ++ (codes "0 " ++ (flat_map number_word line.hints ++ codes "0"))) can.small
    ∙ ap (with_value (Some (unsigned number)))
    (literals_first line.clause (codes "0 " ++ (flat_map number_word line.hints ++ codes "0")) can.literals
    ∙ ap (onto (map signed_of line.clause)) behind)

-- the first 0 behind values that are not 0
record Cut (values rest : List Signed) : Type 0 where
  pub there : has_zero (values ++ unsigned 0 ∷ rest) ≡ true
  pub front : before_first is_zero (values ++ unsigned 0 ∷ rest) ≡ values
  pub back : after_first is_zero (values ++ unsigned 0 ∷ rest) ≡ rest

place_of : (values rest : List Signed) → All (λ v. is_zero v ≡ false) values
    → position_or_len is_zero (values ++ unsigned 0 ∷ rest) ≡ length values
place_of [] rest all = refl
place_of (v ∷ vs) rest all =
    let first : is_zero v ≡ false = all 0 v (omega arith) in
    let further = place_of vs rest (λ k d lt. all (suc k) d (omega arith)) in
    rw first (omega (arith, further))

take_front : (xs ys : List Signed) → take (length xs) (xs ++ ys) ≡ xs
take_front [] ys = refl
take_front (x ∷ xs) ys = ap (λ l. x ∷ l) (take_front xs ys)

drop_front : (xs : List Signed) (y : Signed) (ys : List Signed) → drop (suc (length xs)) (xs ++ y ∷ ys) ≡ ys
drop_front [] y ys = refl
drop_front (x ∷ xs) y ys = drop_front xs y ys

longer : (xs : List Signed) (y : Signed) (ys : List Signed) → length xs < length (xs ++ y ∷ ys)
longer [] y ys = omega arith
longer (x ∷ xs) y ys = let h = longer xs y ys in omega arith

cut : (values rest : List Signed) → All (λ v. is_zero v ≡ false) values → Cut values rest
cut values rest all =
    let at = place_of values rest all in
    let lt = longer values (unsigned 0) rest in
    record {
      there = rw at (grind (arith, nat_tests));
      front = ap (λ (n : ℕ). take n (values ++ unsigned 0 ∷ rest)) at ∙ take_front values (unsigned 0 ∷ rest);
      back = ap (λ (n : ℕ). drop (n + 1) (values ++ unsigned 0 ∷ rest)) at
          ∙ ap (λ (n : ℕ). drop n (values ++ unsigned 0 ∷ rest)) (add-one (length values)) ∙ drop_front values (unsigned 0) rest;
    }

signed_above : (zs : List ℤ) → All (λ z. (0 < var_of z) × (var_of z < 2 ^ 32)) zs → All (λ v. is_zero v ≡ false) (map signed_of zs)
signed_above [] all k d lt = absurd (omega arith)
signed_above (z ∷ zs) all zero d lt = by z (all 0 z (omega arith)).0
  where
    by : (z : ℤ) → 0 < var_of z → is_zero (signed_of z) ≡ false
    by (pos n) h = grind (arith, nat_tests)
    by (negsuc n) h = grind (arith, nat_tests)
signed_above (z ∷ zs) all (suc k) d lt = signed_above zs (λ i e within. all (suc i) e (omega arith)) k d (omega arith)

unsigned_above : (ns : List ℕ) → All (λ n. (0 < n) × (n < 2 ^ 32)) ns → All (λ v. is_zero v ≡ false) (map unsigned ns)
unsigned_above [] all k d lt = absurd (omega arith)
unsigned_above (n ∷ ns) all zero d lt = let h = (all 0 n (omega arith)).0 in grind (arith, nat_tests)
unsigned_above (n ∷ ns) all (suc k) d lt = unsigned_above ns (λ i e within. all (suc i) e (omega arith)) k d (omega arith)

literals_back : (zs : List ℤ) → map literal_of (map signed_of zs) ≡ zs
literals_back [] = refl
literals_back (z ∷ zs) = by z (literals_back zs)
  where
    by : (z : ℤ) → map literal_of (map signed_of zs) ≡ zs → literal_of (signed_of z) ∷ map literal_of (map signed_of zs) ≡ z ∷ zs
    by (pos n) h = ap (λ l. pos n ∷ l) h
    by (negsuc n) h = ap (λ l. negsuc n ∷ l) h

sizes_back : (ns : List ℕ) → map size_of (map unsigned ns) ≡ ns
sizes_back [] = refl
sizes_back (n ∷ ns) = ap (λ l. n ∷ l) (sizes_back ns)

all_plain : (ns : List ℕ) → list_all is_plain (map unsigned ns) ≡ true
all_plain [] = refl
all_plain (n ∷ ns) = all_plain ns

-- the choice of `line_in` where all its tests pass
chosen : (a b c d : Bool) (w : Written) → a ≡ true → b ≡ true → c ≡ true → d ≡ true → (if a && b && c && d then Some w else None) ≡ Some w
chosen true true true true w h i j k = refl
chosen true true true false w h i j k = cc
chosen true true false d w h i j k = cc
chosen true false c d w h i j k = cc
chosen false b c d w h i j k = cc

values_written : (number : ℕ) (line : Line) → CanBeRead number line
    → written_in (Some (values number line)) ≡ Some (record { number = number; line = line })
values_written number line can =
    let literals = map signed_of line.clause in
    let hints = map unsigned line.hints in
    let behind = hints ++ unsigned 0 ∷ [] in
    let first = cut literals behind (signed_above line.clause can.literals) in
    let second = cut hints [] (unsigned_above line.hints can.hints) in
    let all = literals ++ unsigned 0 ∷ behind in
    let back : after_first is_zero all ≡ behind = first.back in
    let there : has_zero (after_first is_zero all) ≡ true = ap has_zero back ∙ second.there in
    let end : (length (after_first is_zero (after_first is_zero all)) == 0) ≡ true =
    ap (λ (vs : List Signed). length (after_first is_zero vs) == 0) back ∙ ap (λ (vs : List Signed). length vs == 0) second.back in
    let front : before_first is_zero (after_first is_zero all) ≡ hints = ap (before_first is_zero) back ∙ second.front in
    let plain : list_all is_plain (before_first is_zero (after_first is_zero all)) ≡ true = ap (list_all is_plain) front
    ∙ all_plain line.hints in
    chosen _ _ _ _ _ first.there there end plain
    ∙ ap (λ (zs : List ℤ). Some
    (record { number = number; line = record { clause = zs; hints = map size_of (before_first is_zero (after_first is_zero all)) } }))
    (ap (map literal_of) first.front ∙ literals_back line.clause)
    ∙ ap (λ (hs : List ℕ). Some (record { number = number; line = record { clause = line.clause; hints = hs } }))
    (ap (map size_of) front ∙ sizes_back line.hints)

-- no LF stands in a line
one_byte : (b : ℕ) → (b == 10) ≡ false → All (λ b. (b == 10) ≡ false) (b ∷ [])
one_byte b h zero d lt = h
one_byte b h (suc k) d lt = absurd (omega arith)

literals_pass : (zs : List ℤ) → All (λ z. (0 < var_of z) × (var_of z < 2 ^ 32)) zs
    → All (λ b. (b == 10) ≡ false) (flat_map literal_word zs)
literals_pass [] all = All-nil (λ b. (b == 10) ≡ false)
literals_pass (z ∷ zs) all =
    All-append (λ b. (b == 10) ≡ false) (literal_word z) (flat_map literal_word zs)
    (All-append (λ b. (b == 10) ≡ false) (signed_decimal z) (codes " ") (literal_pass 10 z (omega arith) (all 0 z (omega arith)).1)
    (one_byte 32 refl))
    (literals_pass zs (λ k d lt. all (suc k) d (omega arith)))

number_passes : (n : ℕ) → n < 2 ^ 32 → All (λ b. (b == 10) ≡ false) (number_word n)
number_passes n small =
    All-append (λ b. (b == 10) ≡ false) (decimal n) (codes " ") (decimal_pass 10 n (omega arith) small) (one_byte 32 refl)

numbers_pass : (ns : List ℕ) → All (λ n. (0 < n) × (n < 2 ^ 32)) ns → All (λ b. (b == 10) ≡ false) (flat_map number_word ns)
numbers_pass [] all = All-nil (λ b. (b == 10) ≡ false)
numbers_pass (n ∷ ns) all =
    All-append (λ b. (b == 10) ≡ false) (number_word n) (flat_map number_word ns) (number_passes n (all 0 n (omega arith)).1)
    (numbers_pass ns (λ k d lt. all (suc k) d (omega arith)))

zero_space : All (λ b. (b == 10) ≡ false) (codes "0 ")
zero_space zero d lt = refl
zero_space (suc zero) d lt = refl
zero_space (suc (suc k)) d lt = absurd (omega arith)

body_passes : (number : ℕ) (line : Line) → CanBeRead number line → All (λ b. (b == 10) ≡ false) (body_of number line)
body_passes number line can =
    let P : ℕ → Type 0 = λ b. (b == 10) ≡ false in
    All-append P (number_word number)
    (flat_map literal_word line.clause ++ (codes "0 " ++ (flat_map number_word line.hints ++ codes "0")))
    (number_passes number can.small)
    (All-append P (flat_map literal_word line.clause) (codes "0 " ++ (flat_map number_word line.hints ++ codes "0"))
    (literals_pass line.clause can.literals)
    (All-append P (codes "0 ") (flat_map number_word line.hints ++ codes "0") zero_space
    (All-append P (flat_map number_word line.hints) (codes "0") (numbers_pass line.hints can.hints) (one_byte 48 refl))))

-- the LF behind the line
body_ended : (a b c d : List ℕ) → a ++ b ++ c ++ d ++ codes "0\n" ≡ (a ++ (b ++ (c ++ (d ++ codes "0")))) ++ 10 ∷ []
body_ended a b c d = simp append_assoc

-- a printed line is one line, and says that line
pub line_said : (number : ℕ) (line : Line) → CanBeRead number line → SaysLine (line_text number line) number line
unfolding form
line_said number line can = record {
  body = body_of number line;
  ended = body_ended (number_word number) (flat_map literal_word line.clause) (codes "0 ") (flat_map number_word line.hints);
  one_line = body_passes number line can;
  says = ap written_in (body_read number line can) ∙ values_written number line can;
}
