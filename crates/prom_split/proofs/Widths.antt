-- How wide a declaration's words, K bits and images are.
use Rattle.std.proofs.Common.{ℕ, zero, suc, ◌+◌, ◌*◌, ◌/◌, ◌%◌, ◌<◌, ◌≤◌, ◌≡◌, Bool, true, false, ◌||◌, inl, inr, refl, sym, subst, arith}
use Rattle.std.specs.Prelude.{◌==◌}
use Rattle.std.proofs.lemmas.Bool.{eqb-true}
use Rattle.bpnf.specs.Image.{IsWidth}
use Rattle.field_decl.specs.Decls.{proms_for}

-- 4 or 8 bits
pub width_is : (bits : ℕ) → (bits == 4 || bits == 8) ≡ true → IsWidth bits
width_is bits h = go (bits == 4) refl h
  where
    go : (four : Bool) → (bits == 4) ≡ four → (four || bits == 8) ≡ true → IsWidth bits
    go true e h = inl (eqb-true bits 4 e)
    go false e h = inr (eqb-true bits 8 h)

-- the images have room for the word, and the last is not empty
pub record Cover (width bits count : ℕ) : Type 0 where
  pub room : width ≤ count * bits
  pub narrow : count * bits ≤ width + 7
  pub last : (k : ℕ) → k < count → k * bits < width + bits

cover_4 : (width : ℕ) → Cover width 4 (proms_for width 4)
cover_4 width = record { room = omega arith; narrow = omega arith; last = λ k lt. omega arith }

cover_8 : (width : ℕ) → Cover width 8 (proms_for width 8)
cover_8 width = record { room = omega arith; narrow = omega arith; last = λ k lt. omega arith }

pub cover : (width bits : ℕ) → IsWidth bits → Cover width bits (proms_for width bits)
cover width bits (inl four) = subst (λ (b : ℕ). Cover width b (proms_for width b)) (sym four) (cover_4 width)
cover width bits (inr eight) = subst (λ (b : ℕ). Cover width b (proms_for width b)) (sym eight) (cover_8 width)

-- there are at most 32 K bits
pub few_kbits : (slices kbus : ℕ) → slices ≤ 16 → 1 ≤ slices → 0 < kbus → 2 * slices % kbus ≡ 0 → kbus ≤ 32
few_kbits slices kbus most some pos shared = go (2 * slices / kbus) (omega (arith, shared))
  where
    go : (share : ℕ) → kbus * share ≡ 2 * slices → kbus ≤ 32
    go zero e = absurd (omega arith)
    go (suc share) e = omega arith

-- a K bit drives some bus bits
pub share_some : (slices kbus : ℕ) → 1 ≤ slices → 0 < kbus → 2 * slices % kbus ≡ 0 → 0 < 2 * slices / kbus
share_some slices kbus some pos shared = go (2 * slices / kbus) (omega (arith, shared))
  where
    go : (share : ℕ) → kbus * share ≡ 2 * slices → 0 < share
    go zero e = absurd (omega arith)
    go (suc share) e = omega arith

-- an image's words have bits
pub width_some : (bits : ℕ) → IsWidth bits → 0 < bits
width_some bits (inl four) = omega arith
width_some bits (inr eight) = omega arith
