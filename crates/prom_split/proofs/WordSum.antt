-- A word as the sum of its parts.
use Rattle.std.proofs.Common.{ℕ, zero, suc, ◌+◌, ◌*◌, ◌%◌, ◌^◌, ◌<◌, ◌≤◌, ◌≡◌, refl, ap, ◌∙◌, arith}
use Rattle.std.proofs.lemmas.Nat.{pow_pos, pow-add}
use Rattle.std.proofs.Math.Nat.{mod-eq_of_lt, pow-le-pow_right, div-eq_of_lt}
use Rattle.field_decl.specs.KBits.{gathered_bits}
use Rattle.field_decl.proofs.SpreadBits.{bound}

-- the K bits below the fields
pub record AboveFits (values kbits kbus wide : ℕ) : Type 0 where
  pub whole : values * 2 ^ kbus % 340282366920938463463374607431768211456 ≡ values * 2 ^ kbus
  pub below : values * 2 ^ kbus + kbits < 2 ^ kbus * 2 ^ wide
  pub small : 2 ^ 18 * (2 ^ kbus * 2 ^ wide) ≤ 2 ^ 96

pub above_fits : (values kbits kbus wide : ℕ) → values < 2 ^ wide → kbits < 2 ^ kbus → 18 + kbus + wide ≤ 96
    → AboveFits values kbits kbus wide
above_fits values kbits kbus wide low few narrow =
    let below : values * 2 ^ kbus + kbits < 2 ^ kbus * 2 ^ wide = bound values kbits (2 ^ kbus) (2 ^ wide) low few in
    let power : 2 ^ (18 + kbus + wide) ≡ 2 ^ 18 * (2 ^ kbus * 2 ^ wide) = pow-add 2 (18 + kbus) wide
    ∙ ap (λ (n : ℕ). n * 2 ^ wide) (pow-add 2 18 kbus) ∙ omega arith in
    let small : 2 ^ (18 + kbus + wide) ≤ 2 ^ 96 = pow-le-pow_right (omega arith) narrow in
    record { whole = mod-eq_of_lt (omega arith); below = below; small = omega arith }

pub above_small : (values kbits kbus wide : ℕ) → values < 2 ^ wide → kbits < 2 ^ kbus → 18 + kbus + wide ≤ 96
    → values * 2 ^ kbus % 340282366920938463463374607431768211456 + kbits < 340282366920938463463374607431768211456
above_small values kbits kbus wide low few narrow =
    let fits = above_fits values kbits kbus wide low few narrow in
    rw fits.whole (omega (arith, fits.below, fits.small))

-- the word that shifts and sums make
pub word_is : (values kbits kbus wide common : ℕ) → values < 2 ^ wide → kbits < 2 ^ kbus → common < 2 ^ 18 → 18 + kbus + wide ≤ 96
    → (values * 2 ^ kbus % 340282366920938463463374607431768211456 + kbits)
    * 262144 % 340282366920938463463374607431768211456 + common ≡ common + 262144 * kbits + 2 ^ (18 + kbus) * values
word_is values kbits kbus wide common low few less narrow =
    let fits = above_fits values kbits kbus wide low few narrow in
    let room : (values * 2 ^ kbus + kbits) * 262144 < 340282366920938463463374607431768211456 = omega (arith, fits.below, fits.small) in
    rw (fits.whole, mod-eq_of_lt room, pow-add 2 18 kbus) (omega arith)

pub word_below : (values kbits kbus wide common : ℕ) → values < 2 ^ wide → kbits < 2 ^ kbus → common < 2 ^ 18 → 18 + kbus + wide ≤ 96
    → (values * 2 ^ kbus % 340282366920938463463374607431768211456 + kbits)
    * 262144 % 340282366920938463463374607431768211456 + common < 2 ^ (18 + kbus + wide)
word_below values kbits kbus wide common low few less narrow =
    let fits = above_fits values kbits kbus wide low few narrow in
    let room : (values * 2 ^ kbus + kbits) * 262144 < 340282366920938463463374607431768211456 = omega (arith, fits.below, fits.small) in
    let power : 2 ^ (18 + kbus + wide) ≡ 2 ^ 18 * (2 ^ kbus * 2 ^ wide) = pow-add 2 (18 + kbus) wide
    ∙ ap (λ (n : ℕ). n * 2 ^ wide) (pow-add 2 18 kbus) ∙ omega arith in
    rw (fits.whole, mod-eq_of_lt room, power) (omega (arith, fits.below))

-- no mask has no K bits
pub gathered_zero : (share count : ℕ) → gathered_bits share count 0 ≡ 0
unfolding gathered_bits
gathered_zero share zero = refl
gathered_zero share (suc count) = rw (div-eq_of_lt (pow_pos share), gathered_zero share count)
