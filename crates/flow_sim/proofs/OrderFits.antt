-- Orders of a program fit its array.
use Rattle.std.proofs.Common.{ℕ, zero, suc, ◌≡◌, ◌*◌, ◌/◌, ◌^◌, ◌<◌, ◌≤◌, subst, arith}
use Rattle.std.specs.Prelude.{IsTrue}
use Rattle.std.proofs.Math.Nat.{pow-suc, pow-le-pow_right, div-mul-le_self}
use Rattle.field_decl.specs.KBits.{spread_bits, has_kbits}
use Rattle.field_decl.proofs.MaskLaw.{has_given}
use Rattle.field_decl.proofs.SpreadBits.{spread_below}

-- two bits a slice
pub four_pow : (n : ℕ) → 2 ^ (2 * n) ≡ 4 ^ n
four_pow zero = omega arith
four_pow (suc n) =
    let two_more : 2 * suc n ≡ suc (suc (2 * n)) = omega arith in
    rw two_more (omega (arith, pow-suc 2 (suc (2 * n)), pow-suc 2 (2 * n), pow-suc 4 n, four_pow n))

-- a mask that K bits give is a word of the array
pub mask_below : (slices kbus mask : ℕ) → IsTrue (has_kbits slices kbus mask) → mask < 4 ^ slices
mask_below slices kbus mask has =
    let given = has_given slices kbus mask has in
    let share : ℕ = 2 * slices / kbus in
    let two : 0 < 2 = omega arith in
    let below : spread_bits share kbus given.0 < 2 ^ (share * kbus) = spread_below share kbus given.0 in
    let top : 2 ^ (share * kbus) ≤ 2 ^ (2 * slices) = pow-le-pow_right two (div-mul-le_self (2 * slices) kbus) in
    subst (λ (m : ℕ). m < 4 ^ slices) given.2 (omega (arith, below, top, four_pow slices))
