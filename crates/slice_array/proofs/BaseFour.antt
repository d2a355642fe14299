-- Whole numbers and the digit below them, to the base 4.
use Rattle.std.proofs.Common.{ℕ, zero, suc, ◌+◌, ◌-◌, ◌*◌, ◌/◌, ◌%◌, ◌^◌, ◌<◌, ◌≤◌, ◌≡◌, bit_and, bit_or, bit_xor, sym, ap, ◌∙◌, arith, mul_comm, subst}
use Rattle.std.proofs.lemmas.Nat.{and_block, or_block, xor_block, xor_lt, mul-pow, pow-add, and_mask}
use Rattle.std.proofs.lemmas.Bool.Decides.{nat_tests}
use Rattle.std.proofs.Math.Nat.{pow-suc, div-div-eq-div-mul}
use Rattle.std.proofs.Math.Arith.{mod-mul}
use Rattle.cpe_slice.specs.WordStep.{sum_carry, or_carry, any_bit}

-- a power of 4 is not 0
pub pow4_pos : (n : ℕ) → 0 < 4 ^ n
pow4_pos zero = omega arith
pow4_pos (suc n) = omega (arith, pow-suc 4 n, pow4_pos n)

-- a power of 4 is an even power of 2
pow4 : (n : ℕ) → 4 ^ n ≡ 2 ^ (n + n)
pow4 n = mul-pow 2 2 n ∙ sym (pow-add 2 n n)

-- the exclusive or of numbers of n digits has n digits
pub xor_below : (n a b : ℕ) → a < 4 ^ n → b < 4 ^ n → bit_xor a b < 4 ^ n
xor_below n a b p q =
    subst (λ (l : ℕ). bit_xor a b < l) (sym (pow4 n))
    (xor_lt (n + n) a b (subst (λ (l : ℕ). a < l) (pow4 n) p) (subst (λ (l : ℕ). b < l) (pow4 n) q))

-- an and of numbers is made digit by digit
pub and_digits : (a b r s : ℕ) → r < 4 → s < 4 → bit_and (a * 4 + r) (b * 4 + s) ≡ bit_and a b * 4 + bit_and r s
and_digits a b r s p q = and_block 2 a b r s p q

-- an or of numbers is made digit by digit
pub or_digits : (a b r s : ℕ) → r < 4 → s < 4 → bit_or (a * 4 + r) (b * 4 + s) ≡ bit_or a b * 4 + bit_or r s
or_digits a b r s p q = or_block 2 a b r s p q

-- an exclusive or of numbers is made digit by digit
pub xor_digits : (a b r s : ℕ) → r < 4 → s < 4 → bit_xor (a * 4 + r) (b * 4 + s) ≡ bit_xor a b * 4 + bit_xor r s
xor_digits a b r s p q = xor_block 2 a b r s p q

-- all ones are all ones in each digit
pub top_digits : (n : ℕ) → 4 ^ suc n - 1 ≡ (4 ^ n - 1) * 4 + 3
top_digits n = omega (arith, pow-suc 4 n, pow4_pos n)

-- the opposite of a number is made digit by digit
pub not_digits : (top a r : ℕ) → a ≤ top → r < 4 → (top * 4 + 3) - (a * 4 + r) ≡ (top - a) * 4 + (3 - r)
not_digits top a r p q = omega arith

-- the digits above the lowest in a sum, its carry taken in
div4 : (a b r s c : ℕ) → (a * 4 + r + (b * 4 + s) + c) / 4 ≡ a + b + (r + s + c) / 4
div4 a b r s c = omega arith

-- the lowest digit of a sum
mod4 : (a b r s c : ℕ) → (a * 4 + r + (b * 4 + s) + c) % 4 ≡ (r + s + c) % 4
mod4 a b r s c = omega arith

-- a sum of n + 1 digits is the sum above, with the carry out of the lowest digit, and the lowest digit's sum
pub sum_digits : (n a b r s c : ℕ) → (a * 4 + r + (b * 4 + s) + c) % 4 ^ suc n ≡ (a + b + (r + s + c) / 4) % 4 ^ n * 4 + (r + s + c) % 4
sum_digits n a b r s c =
    rw (pow-suc, mod-mul (a * 4 + r + (b * 4 + s) + c) {m = 4 ^ n} {c = 4} (pow4_pos n) (omega arith), div4, mod4)

-- the lowest j + 1 digits of a number are the lowest j of what is above, and its lowest
low_digits : (j a r : ℕ) → r < 4 → (a * 4 + r) % 4 ^ suc j ≡ a % 4 ^ j * 4 + r
low_digits j a r h =
    rw (pow-suc, mod-mul (a * 4 + r) {m = 4 ^ j} {c = 4} (pow4_pos j) (omega arith))
    (let p : (a * 4 + r) / 4 ≡ a = omega arith in let q : (a * 4 + r) % 4 ≡ r = omega arith in rw (p, q))

-- the carry out of j + 1 digits is the carry out of the j upper ones, that of the lowest going in
pub sum_carry_digits : (a b r s c j : ℕ) → r < 4 → s < 4 → sum_carry (a * 4 + r) (b * 4 + s) c (suc j) ≡ sum_carry a b ((r + s + c) / 4) j
unfolding sum_carry
sum_carry_digits a b r s c j p q =
    rw (
      low_digits j a r p,
      low_digits j b s q,
      pow-suc,
      mul_comm (4 ^ j) 4,
      ← div-div-eq-div-mul (a % 4 ^ j * 4 + r + (b % 4 ^ j * 4 + s) + c) 4 (4 ^ j),
      div4,
    )

-- any bit of a number is any bit of its lowest digit or of the rest
or_step : (x r c : ℕ) → any_bit (c + (x * 4 + r)) ≡ any_bit (any_bit (c + r) + x)
or_step x r c = grind (arith, nat_tests)

-- the or of j + 1 digits is the or of the j upper ones, that of the lowest going in
pub or_carry_digits : (t r c j : ℕ) → r < 4 → or_carry (t * 4 + r) c (suc j) ≡ or_carry t (any_bit (c + r)) j
unfolding or_carry
or_carry_digits t r c j p = rw (low_digits j t r p) (or_step (t % 4 ^ j) r c)

-- sum_digits, where the carry between has a name
pub sum_digits_by : (n a b r s c x : ℕ) → x ≡ (r + s + c) / 4
    → (a * 4 + r + (b * 4 + s) + c) % 4 ^ suc n ≡ (a + b + x) % 4 ^ n * 4 + (r + s + c) % 4
sum_digits_by n a b r s c x e = sum_digits n a b r s c ∙ ap (λ (y : ℕ). (a + b + y) % 4 ^ n * 4 + (r + s + c) % 4) (sym e)

-- sum_carry_digits, where the carry between has a name
pub sum_carry_by : (a b r s c x i j : ℕ) → r < 4 → s < 4 → x ≡ (r + s + c) / 4 → i ≡ suc j
    → sum_carry (a * 4 + r) (b * 4 + s) c i ≡ sum_carry a b x j
sum_carry_by a b r s c x i j p q e f = rw (f, e) (sum_carry_digits a b r s c j p q)

-- or_carry_digits, where the or between has a name
pub or_carry_by : (t r c x i j : ℕ) → r < 4 → x ≡ any_bit (c + r) → i ≡ suc j → or_carry (t * 4 + r) c i ≡ or_carry t x j
or_carry_by t r c x i j p e f = rw (f, e) (or_carry_digits t r c j p)

-- without its lowest digit a number of n + 1 digits has n
pub div4_lt : (n x : ℕ) → x < 4 ^ suc n → x / 4 < 4 ^ n
div4_lt n x h = omega (arith, pow-suc 4 n)

-- to drop j digits and then one is to drop j + 1
pub further : (x j : ℕ) → x / 4 ^ j / 4 ≡ x / 4 ^ (j + 1)
further x j = div-div-eq-div-mul x (4 ^ j) 4
    ∙ ap (λ (y : ℕ). x / y)
    (let e : 4 ^ j * 4 ≡ 4 ^ (j + 1) = sym (ap (λ (i : ℕ). 4 ^ i) (let k : j + 1 ≡ suc j = omega arith in k) ∙ pow-suc 4 j) in e)

-- two bits read by a shift and a mask are a base-4 digit
pub two_shift : (x j : ℕ) → bit_and (x / 2 ^ (2 * j)) 3 ≡ x / 4 ^ j % 4
two_shift x j = and_mask (x / 2 ^ (2 * j)) 2 ∙ ap (λ (y : ℕ). x / y % 4) (double j)
  where
    double : (j : ℕ) → 2 ^ (2 * j) ≡ 4 ^ j
    double j = let e : 2 * j ≡ j + j = omega arith in ap (λ (i : ℕ). 2 ^ i) e ∙ pow-add 2 j j ∙ sym (mul-pow 2 2 j)
