-- Bits of numbers that are cut and put together.
use Rattle.std.proofs.Common.{ℕ, ◌+◌, ◌-◌, ◌*◌, ◌/◌, ◌%◌, ◌^◌, ◌<◌, ◌≡◌, sym, ap, ◌∙◌, arith}
use Rattle.std.specs.Int.{bit_at}
use Rattle.std.proofs.lemmas.Nat.{shr-shr, shr_high, field_of}
use Rattle.std.proofs.Math.Nat.{add-mul-mod_self_right}
use lib.Pow.{mod-mod-pow}

-- a bit of a number without its lowest bits
pub bit_at-shr : (n k i : ℕ) → bit_at (n / 2 ^ k) i ≡ bit_at n (k + i)
bit_at-shr n k i = ap (λ (x : ℕ). x % 2) (shr-shr n k i)

-- a bit of the lowest bits of a number
pub bit_at-low : (n w i : ℕ) → i < w → bit_at (n % 2 ^ w) i ≡ bit_at n i
bit_at-low n w i lt =
    let rest : ℕ = w - i - 1 in
    let sum : w ≡ (rest + 1) + i = omega arith in
    ap (λ (k : ℕ). n % 2 ^ k / 2 ^ i % 2) sum ∙ ap (λ (x : ℕ). x % 2) (field_of n (rest + 1) i) ∙ mod-mod-pow (n / 2 ^ i) rest 1

-- a low bit of a sum of a number and another that is shifted above it
pub bit_at-sum_low : (a n x i : ℕ) → i < n → bit_at (a + x * 2 ^ n) i ≡ bit_at a i
bit_at-sum_low a n x i lt =
    sym (bit_at-low (a + x * 2 ^ n) n i lt) ∙ ap (λ (m : ℕ). bit_at m i) (add-mul-mod_self_right a x (2 ^ n)) ∙ bit_at-low a n i lt

-- a high bit of such a sum
pub bit_at-sum_high : (a n x i : ℕ) → a < 2 ^ n → bit_at (a + x * 2 ^ n) (n + i) ≡ bit_at x i
bit_at-sum_high a n x i below =
    let turned : a + x * 2 ^ n ≡ x * 2 ^ n + a = omega arith in
    sym (bit_at-shr (a + x * 2 ^ n) n i) ∙ ap (λ (m : ℕ). bit_at (m / 2 ^ n) i) turned ∙ ap (λ (m : ℕ). bit_at m i) (shr_high x n a below)
