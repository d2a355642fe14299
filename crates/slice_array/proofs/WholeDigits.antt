-- Whole words cut into digits and put together again.
use Rattle.std.proofs.Common.{ℕ, zero, suc, ◌+◌, ◌*◌, ◌/◌, ◌%◌, ◌^◌, ◌<◌, ◌≡◌, bit_and, sym, ap, ◌∙◌, arith, refl, subst, List, [], ◌∷◌, length, get_or, All, replicate, map}
use Rattle.std.proofs.Math.Nat.{pow-suc, div-div-eq-div-mul}
use Rattle.cpe_slice.specs.Registers.{Registers, AllBelow}
use Rattle.std.proofs.lemmas.List.Elements.{All-get_or, All-from_get_or}
use Rattle.slice_array.specs.Whole.{join, join_list, whole, zero_registers, AllSlices, digit, digit_of}
use Rattle.std.proofs.lemmas.Grind.{same_number_lists}
use Rattle.std.proofs.lemmas.List.{length-map}
use Rattle.slice_array.proofs.BaseFour.{div4_lt, two_shift}
use Rattle.slice_array.proofs.WholeWords.{index_join, length_join}

-- an element of a mapped list
map_at : (f : ℕ → ℕ) (xs : List ℕ) (n : ℕ) → n < length xs → get_or (map f xs) n 0 ≡ f (get_or xs n 0)
map_at f [] n h = absurd (omega arith)
map_at f (x ∷ xs) zero h = refl
map_at f (x ∷ xs) (suc n) h = map_at f xs n (omega arith)

-- registers read digit by digit, by shift and mask, are digit j of the words
pub digit_is : (j : ℕ) (w : Registers) (r : List ℕ) → length r ≡ 10 → length w.r ≡ 10
    → ((n : ℕ) → n < 10 → get_or r n 0 ≡ bit_and (get_or w.r n 0 / 2 ^ (2 * j)) 3)
    → (record { r = r; t = bit_and (w.t / 2 ^ (2 * j)) 3; ac = bit_and (w.ac / 2 ^ (2 * j)) 3; mar = bit_and (w.mar / 2 ^ (2 * j)) 3 })
    ≡ digit j w
unfolding digit
digit_is j w r e h f =
    let same : r ≡ map (digit_of j) w.r = same_number_lists r (map (digit_of j) w.r) (e ∙ sym (length-map w.r (digit_of j) ∙ h))
    (λ n k. f n (let p : n < 10 = omega arith in p) ∙ two_shift (get_or w.r n 0) j
    ∙ sym (map_at (digit_of j) w.r n (let p : n < length w.r = omega arith in p))) in
    rw (same, two_shift w.t j, two_shift w.ac j, two_shift w.mar j)

-- a digit of the words is a slice
pub digit_below : (j : ℕ) (w : Registers) → length w.r ≡ 10 → AllBelow 4 (digit j w)
unfolding digit
digit_below j w h = record {
  ten = length-map w.r (digit_of j) ∙ h;
  r = All-from_get_or (λ (x : ℕ). x < 4) (map (digit_of j) w.r) 0
      (λ n k. rw (map_at (digit_of j) w.r n (let p : n < length w.r = omega (arith, length-map w.r (digit_of j)) in p)) (omega arith));
  t = omega arith;
  ac = omega arith;
  mar = omega arith;
}

-- registers put together one by one are the join
pub joined_is : (s w : Registers) (r : List ℕ) → length r ≡ 10 → length w.r ≡ 10 → length s.r ≡ 10
    → ((n : ℕ) → n < 10 → get_or r n 0 ≡ get_or w.r n 0 * 4 + get_or s.r n 0)
    → (record { r = r; t = w.t * 4 + s.t; ac = w.ac * 4 + s.ac; mar = w.mar * 4 + s.mar }) ≡ join s w
joined_is s w r e h k f =
    let same : r ≡ join_list s.r w.r = same_number_lists r (join_list s.r w.r) (e ∙ sym (length_join s.r w.r (k ∙ sym h) ∙ k))
    (λ n l. f n (let p : n < 10 = omega arith in p) ∙ sym (index_join s.r w.r n (k ∙ sym h))) in
    rw same

-- the words without their lowest digit
unfoldable pub upper : Registers → Registers
upper w = record { r = map (λ x. x / 4) w.r; t = w.t / 4; ac = w.ac / 4; mar = w.mar / 4 }

-- digit j + 1 is digit j of the rest
next_digit : (j x : ℕ) → x / 4 ^ suc j % 4 ≡ x / 4 / 4 ^ j % 4
next_digit j x = let e : 4 ^ suc j ≡ 4 * 4 ^ j = omega (arith, pow-suc 4 j) in rw (e, ← div-div-eq-div-mul x 4 (4 ^ j))

-- so it is in a list
map_next : (j : ℕ) (xs : List ℕ) → map (digit_of (suc j)) xs ≡ map (digit_of j) (map (λ x. x / 4) xs)
map_next j [] = refl
map_next j (x ∷ xs) = rw (next_digit j x, map_next j xs)

-- so it is in all registers
pub digit_suc : (j : ℕ) (w : Registers) → digit (suc j) w ≡ digit j (upper w)
unfolding digit upper
digit_suc j w = rw (map_next j w.r, next_digit j w.t, next_digit j w.ac, next_digit j w.mar)

-- a number is its lowest digit below the rest
lowest : (x : ℕ) → x / 4 * 4 + x / 1 % 4 ≡ x
lowest x = omega arith

-- so it is in a list
map_lowest : (xs : List ℕ) → join_list (map (digit_of 0) xs) (map (λ x. x / 4) xs) ≡ xs
map_lowest [] = refl
map_lowest (x ∷ xs) = rw (lowest x, map_lowest xs)

-- the words are their lowest digits joined below the rest
pub join_upper : (w : Registers) → join (digit 0 w) (upper w) ≡ w
unfolding digit upper
join_upper w = rw (map_lowest w.r, lowest w.t, lowest w.ac, lowest w.mar)

-- numbers below 1 are zeros
zeros : (xs : List ℕ) → All (λ x. x < 1) xs → xs ≡ replicate (length xs) 0
zeros [] a = refl
zeros (x ∷ xs) a = let e : x ≡ 0 = omega (arith, a zero 0 (omega arith)) in rw (e, ← zeros xs (λ k d h. a (suc k) d (omega arith)))

-- without their lowest digit words of n + 1 digits have n
upper_below : (n : ℕ) (w : Registers) → AllBelow (4 ^ suc n) w → AllBelow (4 ^ n) (upper w)
unfolding upper
upper_below n w a = record {
  ten = length-map w.r (λ x. x / 4) ∙ a.ten;
  r = All-from_get_or (λ (x : ℕ). x < 4 ^ n) (map (λ x. x / 4) w.r) 0
      (λ i k. let p : i < length w.r = omega (arith, length-map w.r (λ x. x / 4)) in
      rw (map_at (λ x. x / 4) w.r i p) (div4_lt n (get_or w.r i 0) (All-get_or (λ (x : ℕ). x < 4 ^ suc n) w.r i 0 p a.r)));
  t = div4_lt n w.t a.t;
  ac = div4_lt n w.ac a.ac;
  mar = div4_lt n w.mar a.mar;
}

-- words of no digit are 0
nothing : (w : Registers) → AllBelow 1 w → zero_registers ≡ w
nothing w a =
    let r : w.r ≡ replicate 10 0 = zeros w.r a.r ∙ ap (λ (n : ℕ). replicate n 0) a.ten in
    let t : w.t ≡ 0 = omega (arith, a.t) in
    let ac : w.ac ≡ 0 = omega (arith, a.ac) in
    let mar : w.mar ≡ 0 = omega (arith, a.mar) in
    sym (λ i. record { r = r i; t = t i; ac = ac i; mar = mar i })

-- slices that hold the digits of words make these words
pub whole_digits : (ss : List Registers) (w : Registers) → AllBelow (4 ^ length ss) w
    → ((i : ℕ) (d : Registers) → i < length ss → get_or ss i d ≡ digit i w) → whole ss ≡ w
whole_digits [] w a h = nothing w a
whole_digits (s ∷ ss) w a h =
    let first : s ≡ digit 0 w = h 0 s (omega arith) in
    let rest : whole ss ≡ upper w =
    whole_digits ss (upper w) (upper_below (length ss) w a) (λ i d k. h (suc i) d (omega arith) ∙ digit_suc i w) in
    ap (λ (x : Registers). join x (whole ss)) first ∙ ap (λ (x : Registers). join (digit 0 w) x) rest ∙ join_upper w

-- the digits of words are slices
pub all_digits : (ss : List Registers) (w : Registers) → length w.r ≡ 10 → (j : ℕ)
    → ((i : ℕ) (d : Registers) → i < length ss → get_or ss i d ≡ digit (j + i) w) → AllSlices ss
all_digits [] w e j h = tt
all_digits (s ∷ ss) w e j h = (
  subst (λ (x : Registers). AllBelow 4 x) (sym (h 0 s (omega arith))) (digit_below (j + 0) w e),
  all_digits ss w e (j + 1)
      (λ i d k. h (suc i) d (omega arith) ∙ ap (λ (n : ℕ). digit n w) (let q : j + suc i ≡ j + 1 + i = omega arith in q)),
)
