-- K bits spread on a bus and gathered again.
use Rattle.std.proofs.Common.{ℕ, zero, suc, ◌+◌, ◌-◌, ◌*◌, ◌/◌, ◌%◌, ◌^◌, ◌<◌, ◌≤◌, ◌≡◌, refl, sym, ap, subst, ◌∙◌, arith}
use Rattle.std.specs.Prelude.{bit_and}
use Rattle.std.proofs.lemmas.Nat.{pow_pos, pow-add, and_mask}
use Rattle.std.proofs.Math.Nat.{mul_comm, pow-suc, div-div-eq-div-mul, mod-eq_of_lt, pow-le-pow_right, mul-le-mul_right, mul-le-mul_left, add-mul-div_left, div-eq_of_lt}
use Rattle.field_decl.specs.KBits.{spread_bits, gathered_bits}

-- what stands above a digit below w
pub high_of : (a w r : ℕ) → a < w → (a + w * r) / w ≡ r
high_of a w r h = let pos : 0 < w = omega arith in omega (arith, add-mul-div_left a r pos, div-eq_of_lt h)

-- the lowest K bit, and the others
low_bit : (s k x : ℕ) → 0 < s → (k % 2 * (2 ^ s - 1) + 2 ^ s * x) % 2 ≡ k % 2
low_bit zero k x h = absurd (omega arith)
low_bit (suc s) k x h = rw (pow-suc, mul_comm (2 ^ s) 2) (go (k % 2) (2 ^ s) (pow_pos s) (omega arith))
  where
    go : (b p : ℕ) → 0 < p → b < 2 → (b * (2 * p - 1) + 2 * p * x) % 2 ≡ b
    go zero p g e = omega arith
    go (suc zero) p g e = omega arith
    go (suc (suc b)) p g e = absurd (omega arith)

-- a K bit on its share is below the next share
lowest : (b p : ℕ) → 0 < p → b < 2 → b * (p - 1) < p
lowest zero p g e = omega arith
lowest (suc zero) p g e = omega arith
lowest (suc (suc b)) p g e = absurd (omega arith)

pub other_bits : (s k x : ℕ) → (k % 2 * (2 ^ s - 1) + 2 ^ s * x) / 2 ^ s ≡ x
other_bits s k x = high_of (k % 2 * (2 ^ s - 1)) (2 ^ s) x (lowest (k % 2) (2 ^ s) (pow_pos s) (omega arith))

-- gathering gives the K bits back
pub gathered_spread : (s n k : ℕ) → 0 < s → k < 2 ^ n → gathered_bits s n (spread_bits s n k) ≡ k
unfolding spread_bits gathered_bits
gathered_spread s zero k h p = omega arith
gathered_spread s (suc n) k h p =
    let below : k / 2 < 2 ^ n = omega (arith, pow-suc 2 n, p) in
    rw (low_bit s k (spread_bits s n (k / 2)) h, other_bits s k (spread_bits s n (k / 2)), gathered_spread s n (k / 2) h below)
    (omega arith)

-- a gathered number has n bits
pub gathered_below : (s n m : ℕ) → gathered_bits s n m < 2 ^ n
unfolding gathered_bits
gathered_below s zero m = omega arith
gathered_below s (suc n) m = omega (arith, pow-suc 2 n, gathered_below s n (m / 2 ^ s))

-- the new word is below the new power
pub bound : (x v q p : ℕ) → x < p → v < q → x * q + v < q * p
bound x v q p h g =
    let e : suc x * q ≤ p * q = mul-le-mul_right q h in
    omega arith

-- a shift by at most 32 does not wrap
top64 : (s : ℕ) → s ≤ 32 → 1 * 2 ^ s % 18446744073709551616 ≡ 2 ^ s
top64 s h =
    let small : 2 ^ s ≤ 2 ^ 32 = pow-le-pow_right (omega arith) h in
    let e : 1 * 2 ^ s ≡ 2 ^ s = omega arith in
    rw e (mod-eq_of_lt (omega arith))

-- the mask of n K bits is below the power of their shares
pub spread_below : (s n k : ℕ) → spread_bits s n k < 2 ^ (s * n)
unfolding spread_bits
spread_below s zero k = pow_pos (s * 0)
spread_below s (suc n) k =
    let e : s * suc n ≡ s + s * n = omega arith in
    let p : 2 ^ (s * suc n) ≡ 2 ^ s * 2 ^ (s * n) = ap (λ (x : ℕ). 2 ^ x) e ∙ pow-add 2 s (s * n) in
    let low : k % 2 * (2 ^ s - 1) < 2 ^ s = lowest (k % 2) (2 ^ s) (pow_pos s) (omega arith) in
    let h : spread_bits s n (k / 2) * 2 ^ s + k % 2 * (2 ^ s - 1) < 2 ^ s * 2 ^ (s * n) =
    bound (spread_bits s n (k / 2)) (k % 2 * (2 ^ s - 1)) (2 ^ s) (2 ^ (s * n)) (spread_below s n (k / 2)) low in
    rw p (omega arith)

-- a share is no wider than the bus
span_le : (s count : ℕ) → 0 < count → s * count ≤ 32 → s ≤ 32
span_le s zero h narrow = absurd (omega arith)
span_le s (suc count) h narrow = omega arith

-- what is left fits with one share more
rest_le : (s count j : ℕ) → suc j ≤ count → s * count ≤ 32 → s + s * (count - suc j) ≤ 32
rest_le s count j h narrow =
    let e : count ≡ suc (count - suc j) + j = omega arith in
    let f : s * count ≡ s * (suc (count - suc j) + j) = ap (λ (x : ℕ). s * x) e in
    omega arith

-- K bits from the next place on
halved : (k j : ℕ) → k / 2 ^ suc j ≡ k / 2 ^ j / 2
halved k j = rw (pow-suc, ← div-div-eq-div-mul k (2 ^ j) 2)

-- ---- the loop that spreads

pub spread_turn : (s count k j mask b : ℕ) → suc j ≤ count → s * count ≤ 32 → b ≡ k / 2 ^ j % 2
    → mask ≡ spread_bits s (count - suc j) (k / 2 ^ suc j)
    → mask * 2 ^ s % 18446744073709551616 + b * (1 * 2 ^ s % 18446744073709551616 - 1) ≡ spread_bits s (count - j) (k / 2 ^ j)
unfolding spread_bits
spread_turn s count k j mask b h narrow eb e =
    let r : ℕ = count - suc j in
    let c : count - j ≡ suc r = omega arith in
    let same : spread_bits s r (k / 2 ^ suc j) ≡ spread_bits s r (k / 2 ^ j / 2) = ap (spread_bits s r) (halved k j) in
    let below : mask < 2 ^ (s * r) = rw e (spread_below s r (k / 2 ^ suc j)) in
    let up : mask * 2 ^ s + 0 < 2 ^ s * 2 ^ (s * r) = bound mask 0 (2 ^ s) (2 ^ (s * r)) below (pow_pos s) in
    let fits : s + s * r ≤ 32 = rest_le s count j h narrow in
    let small : 2 ^ (s + s * r) ≤ 2 ^ 32 = pow-le-pow_right (omega arith) fits in
    let less : mask * 2 ^ s < 18446744073709551616 = omega (arith, pow-add 2 s (s * r)) in
    rw (c, mod-eq_of_lt less, top64 s (span_le s count (omega arith) narrow), eb, e, same) (omega arith)

-- the mask so far fits
pub spread_fits : (s count k j : ℕ) → s * count ≤ 32 → spread_bits s (count - j) (k / 2 ^ j) < 18446744073709551616
spread_fits s count k j narrow =
    let less : s * (count - j) ≤ s * count = mul-le-mul_left s (omega arith) in
    let fits : s * (count - j) ≤ 32 = omega arith in
    let small : 2 ^ (s * (count - j)) ≤ 2 ^ 32 = pow-le-pow_right (omega arith) fits in
    omega (arith, spread_below s (count - j) (k / 2 ^ j))

-- no K bits yet
pub spread_none : (s n k : ℕ) → 0 ≡ spread_bits s (n - n) k
unfolding spread_bits
spread_none s n k = let e : n - n ≡ 0 = omega arith in rw e

-- the lowest bit
pub bit_is : (x : ℕ) → bit_and x 1 ≡ x % 2
bit_is x = and_mask x 1

-- all K bits
pub spread_done : (s count k j mask : ℕ) → j ≡ 0 → mask ≡ spread_bits s (count - j) (k / 2 ^ j) → mask < 2 ^ (s * count)
spread_done s count k j mask z e =
    let all : count - j ≡ count = omega arith in
    let below : mask < 2 ^ (s * (count - j)) = rw e (spread_below s (count - j) (k / 2 ^ j)) in
    subst (λ (n : ℕ). mask < 2 ^ (s * n)) all below

-- ---- the loop that gathers

-- one K bit more
pub gathered_turn : (s count mask j kbits b : ℕ) → suc j ≤ count → b ≡ mask / 2 ^ (j * s) % 2
    → kbits ≡ gathered_bits s (count - suc j) (mask / 2 ^ (suc j * s))
    → 2 * kbits + b ≡ gathered_bits s (count - j) (mask / 2 ^ (j * s))
unfolding gathered_bits
gathered_turn s count mask j kbits b h eb e =
    let r : ℕ = count - suc j in
    let c : count - j ≡ suc r = omega arith in
    let sum : suc j * s ≡ j * s + s = omega arith in
    let power : 2 ^ (suc j * s) ≡ 2 ^ (j * s) * 2 ^ s = ap (λ (x : ℕ). 2 ^ x) sum ∙ pow-add 2 (j * s) s in
    let rest : mask / 2 ^ (suc j * s) ≡ mask / 2 ^ (j * s) / 2 ^ s = ap (λ (x : ℕ). mask / x) power
    ∙ sym (div-div-eq-div-mul mask (2 ^ (j * s)) (2 ^ s)) in
    rw (c, eb, e, rest) (omega arith)

-- no K bits yet
pub gathered_none : (s n mask : ℕ) → 0 ≡ gathered_bits s (n - n) mask
unfolding gathered_bits
gathered_none s n mask = let e : n - n ≡ 0 = omega arith in rw e refl

-- there are no more K bits than bus bits
pub count_le : (s count : ℕ) → 0 < s → s * count ≤ 32 → count ≤ 32
count_le zero count h narrow = absurd (omega arith)
count_le (suc s) count h narrow = let e : suc s * count ≡ count + s * count = omega arith in omega arith

-- the K bits so far fit
pub gathered_fits : (s count mask j : ℕ) → 0 < s → s * count ≤ 32 → gathered_bits s (count - j) mask < 4294967296
gathered_fits s count mask j h narrow =
    let few : count ≤ 32 = count_le s count h narrow in
    let fewer : count - j ≤ 32 = omega arith in
    let small : 2 ^ (count - j) ≤ 2 ^ 32 = pow-le-pow_right (omega arith) fewer in
    omega (arith, gathered_below s (count - j) mask)

-- K bits that give a mask are the gathered ones
pub gathers_back : (s count mask kbits k : ℕ) → 0 < s → k < 2 ^ count → spread_bits s count k ≡ mask → kbits ≡ gathered_bits s count mask
    → kbits ≡ k
gathers_back s count mask kbits k some few spread e = e ∙ ap (gathered_bits s count) (sym spread) ∙ gathered_spread s count k some few
