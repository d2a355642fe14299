-- Numbers of two bits.
use Rattle.std.proofs.Common.{ℕ, ◌<◌, bit_and, bit_or, bit_xor, arith}
use Rattle.std.proofs.lemmas.Nat.{or_lt, xor_lt, and_le_l}

-- an or of two bits has two bits
pub or_two : (a b : ℕ) → a < 4 → b < 4 → bit_or a b < 4
or_two a b p q = or_lt 2 a b p q

-- an exclusive or of two bits has two bits
pub xor_two : (a b : ℕ) → a < 4 → b < 4 → bit_xor a b < 4
xor_two a b p q = xor_lt 2 a b p q

-- an and of two bits has two bits
pub and_two : (a b : ℕ) → a < 4 → bit_and a b < 4
and_two a b p = omega (arith, and_le_l a b)

pub ruleset two_bits = (or_two, xor_two, and_two)
