-- The links as the bits of one number.
use Rattle.std.proofs.Common.{ℕ, zero, suc, ◌+◌, ◌*◌, ◌%◌, ◌^◌, ◌<◌, ◌≤◌, ◌≡◌, arith, Bool, true, false, refl, add-one}
use Rattle.std.proofs.Math.Nat.{pow-suc}
use Rattle.cpe_slice.specs.WordStep.{bits_below, bit}
use Rattle.std.proofs.lemmas.Nat.{one_shl}
use mir.Val.{bool_byte}

-- the bits of a number, the lowest apart
pub bits_below_first : (n : ℕ) (f : ℕ → ℕ) → bits_below (suc n) f ≡ f 0 + 2 * bits_below n (λ j. f (suc j))
unfolding bits_below
bits_below_first zero f = omega arith
bits_below_first (suc n) f = rw (bits_below_first n f, pow-suc 2 n) (omega arith)

-- the same bits make the same number
pub bits_below_same : (n : ℕ) (f g : ℕ → ℕ) → ((j : ℕ) → f j ≡ g j) → bits_below n f ≡ bits_below n g
unfolding bits_below
bits_below_same zero f g e = refl
bits_below_same (suc n) f g e = rw (bits_below_same n f g e, e n)

-- the number of one bit
pub one_bit : (f : ℕ → ℕ) → f 0 + 0 ≡ bits_below 1 f
unfolding bits_below
one_bit f = omega arith

-- the next power of 2
pub twice : (j : ℕ) → 2 ^ (j + 1) ≡ 2 ^ j * 2
twice j = rw add-one (pow-suc 2 j)

-- a truth value shifted to bit j of 32 bits
pub shifted : (x : Bool) (y j : ℕ) → y ≡ bool_byte x → j < 16 → y * 2 ^ j % 2 ^ 32 ≡ bit x * 2 ^ j
shifted true y j e h = rw (e, one_shl j 32 (let k : j < 32 = omega arith in k)) (omega arith)
shifted false y j e h = rw e (omega arith)

-- bit j is put above the links so far
pub more_links : (links j y : ℕ) (co : Bool) (r : ℕ) → y ≡ bool_byte co → j < 16
    → links + 2 ^ j * (bit co + 2 * r) ≡ (links + y * 2 ^ j % 4294967296) + 2 ^ (j + 1) * r
more_links links j y co r e h = rw (shifted co y j e h, twice j) (omega arith)

-- then they are a number of j + 1 bits
pub more_small : (links j y : ℕ) (co : Bool) → y ≡ bool_byte co → j < 16 → links < 2 ^ j → links + y * 2 ^ j % 4294967296 < 2 ^ (j + 1)
more_small links j y co e h l = rw (shifted co y j e h, twice j) (at_most co)
  where
    at_most : (c : Bool) → links + bit c * 2 ^ j < 2 ^ j * 2
    at_most true = omega arith
    at_most false = omega arith

-- bit i is put below the links so far
pub fewer_links : (i y : ℕ) (ro : Bool) (r links : ℕ) → y ≡ bool_byte ro → i < 16 → 2 ^ (i + 1) * r ≡ links
    → 2 ^ i * (bit ro + 2 * r) ≡ links + y * 2 ^ i % 4294967296
fewer_links i y ro r links e h l = rw (shifted ro y i e h, ← l, twice i) (omega arith)

-- then they still fit 16 bits
pub fewer_small : (i y : ℕ) (ro : Bool) (links : ℕ) → y ≡ bool_byte ro → i < 16 → links + 2 ^ (i + 1) ≤ 2 ^ 16
    → links + y * 2 ^ i % 4294967296 + 2 ^ i ≤ 2 ^ 16
fewer_small i y ro links e h l = rw (shifted ro y i e h) (at_most ro)
  where
    at_most : (c : Bool) → links + bit c * 2 ^ i + 2 ^ i ≤ 2 ^ 16
    at_most true = omega (arith, twice i)
    at_most false = omega (arith, twice i)
