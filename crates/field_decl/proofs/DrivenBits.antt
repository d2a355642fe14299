-- Each bus bit is the K bit of its share.
use Rattle.std.proofs.Common.{ℕ, zero, suc, ◌+◌, ◌-◌, ◌*◌, ◌/◌, ◌%◌, ◌^◌, ◌<◌, ◌≡◌, sym, ap, ◌∙◌, arith, inl, inr}
use Rattle.std.proofs.lemmas.Bool.{cases_lt}
use Rattle.std.proofs.lemmas.Nat.{pow_pos, pow-add}
use Rattle.std.proofs.Math.Nat.{div-div-eq-div-mul, div-eq_of_lt, add-mul-div_left}
use Rattle.field_decl.specs.KBits.{spread_bits}
use Rattle.field_decl.proofs.SpreadBits.{high_of, other_bits}

-- a bit within the lowest share is the lowest K bit
within_share : (p e a r : ℕ) → 0 < p → 0 < e → a < 2 → (a * (p * (2 * e) - 1) + p * (2 * e) * r) / p % 2 ≡ a
within_share zero e a r pos some bit = absurd (omega arith)
within_share (suc p) zero a r pos some bit = absurd (omega arith)
within_share (suc p) (suc e) zero r pos some bit =
    let whole : zero * (suc p * (2 * suc e) - 1) + suc p * (2 * suc e) * r ≡ 0 + suc p * (2 * (suc e * r)) = omega arith in
    rw (whole, high_of 0 (suc p) (2 * (suc e * r)) (omega arith)) (omega arith)
within_share (suc p) (suc e) (suc zero) r pos some bit =
    let whole : suc zero * (suc p * (2 * suc e) - 1) + suc p * (2 * suc e) * r ≡ p + suc p * (2 * e + 1 + 2 * (suc e * r)) =
    omega arith in
    rw (whole, high_of p (suc p) (2 * e + 1 + 2 * (suc e * r)) (omega arith)) (omega arith)
within_share (suc p) (suc e) (suc (suc a)) r pos some bit = absurd (omega arith)

-- the same, by the powers of two
low_bits : (s b k r : ℕ) → b < s → (k % 2 * (2 ^ s - 1) + 2 ^ s * r) / 2 ^ b % 2 ≡ k % 2
low_bits s b k r lt =
    let d : ℕ = s - b - 1 in
    let sum : s ≡ b + (1 + d) = omega arith in
    let power : 2 ^ s ≡ 2 ^ b * (2 * 2 ^ d) = ap (λ (n : ℕ). 2 ^ n) sum ∙ pow-add 2 b (1 + d)
    ∙ ap (λ (n : ℕ). 2 ^ b * n) (pow-add 2 1 d) in
    rw power (within_share (2 ^ b) (2 ^ d) (k % 2) r (pow_pos b) (pow_pos d) (omega arith))

-- bus bit b is K bit b div s
pub spread_bit : (s count k b : ℕ) → 0 < s → b < s * count → spread_bits s count k / 2 ^ b % 2 ≡ k / 2 ^ (b / s) % 2
unfolding spread_bits
spread_bit s zero k b some lt = absurd (omega arith)
spread_bit s (suc count) k b some lt = elim (cases_lt b s) [
  | inl low ↦ (let first : b / s ≡ 0 = div-eq_of_lt low in
      low_bits s b k (spread_bits s count (k / 2)) low
      ∙ sym (ap (λ (n : ℕ). k / 2 ^ n % 2) first ∙ (let one : k / 2 ^ 0 ≡ k = omega arith in ap (λ (n : ℕ). n % 2) one)))
  | inr high ↦
      (let rest : ℕ = b - s in
      let sum : b ≡ s + rest = omega arith in
      let below : rest < s * count = omega arith in
      let power : 2 ^ b ≡ 2 ^ s * 2 ^ rest = ap (λ (n : ℕ). 2 ^ n) sum ∙ pow-add 2 s rest in
      let next : b / s ≡ 1 + rest / s =
      (let e : b ≡ rest + s * 1 = omega arith in ap (λ (n : ℕ). n / s) e ∙ add-mul-div_left rest 1 some ∙ omega arith) in
      let halved : k / 2 ^ (b / s) ≡ k / 2 / 2 ^ (rest / s) = ap (λ (n : ℕ). k / 2 ^ n) next
      ∙ ap (λ (n : ℕ). k / n) (pow-add 2 1 (rest / s)) ∙ sym (div-div-eq-div-mul k 2 (2 ^ (rest / s))) in
      ap (λ (n : ℕ). (k % 2 * (2 ^ s - 1) + 2 ^ s * spread_bits s count (k / 2)) / n % 2) power
      ∙ ap (λ (n : ℕ). n % 2) (sym (div-div-eq-div-mul (k % 2 * (2 ^ s - 1) + 2 ^ s * spread_bits s count (k / 2)) (2 ^ s) (2 ^ rest)))
      ∙ ap (λ (n : ℕ). n / 2 ^ rest % 2) (other_bits s k (spread_bits s count (k / 2)))
      ∙ spread_bit s count (k / 2) rest some below
      ∙ ap (λ (n : ℕ). n % 2) (sym halved))
]
