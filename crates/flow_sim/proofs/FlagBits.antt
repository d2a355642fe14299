-- FI as a truth value.
use Rattle.std.proofs.Common.{ℕ, ◌≡◌, ◌==◌, Bool, true, false, refl, ap, ◌∙◌}
use Rattle.cpe_slice.specs.WordStep.{bit}

bit_is_one : (b : Bool) → b ≡ (bit b == 1)
bit_is_one true = refl
bit_is_one false = refl

-- a truth value is whether its number is 1
pub one_of : (b : Bool) (x : ℕ) → bit b ≡ x → b ≡ (x == 1)
one_of b x e = bit_is_one b ∙ ap (λ (y : ℕ). y == 1) e
