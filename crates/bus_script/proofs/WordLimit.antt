-- A word of at most sixteen slices has at most 32 bits.
use Rattle.std.proofs.Common.{ℕ, ◌<◌, ◌≤◌, ◌^◌, arith}
use Rattle.std.proofs.Math.Nat.{pow-le-pow_right}

-- the limit of a word fits 32 bits
pub limit_fits : (slices : ℕ) → slices ≤ 16 → 4 ^ slices ≤ 2 ^ 32
limit_fits slices h =
    let four : 0 < 4 = omega arith in
    pow-le-pow_right four h
