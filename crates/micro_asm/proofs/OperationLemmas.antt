-- The right shift has no mask.
use Rattle.std.proofs.Common.{◌≡◌, ℕ, Bool, true, false, not, ◌&&◌, sym, ap, ◌∙◌, eqb}
use Rattle.std.specs.Prelude.{IsTrue}
use Rattle.std.proofs.lemmas.Bool.{and_parts, not-false, eqb-true}
use Rattle.cpe_slice.specs.FunctionCode.{function_of, group_of, is_shift}
use Rattle.micro_asm.specs.Operations.{is_masked_shift}

last_of : (a b c : Bool) → (a && b && c) ≡ false → a ≡ true → b ≡ true → c ≡ false
last_of true true c none a b = none
last_of true false c none a b = absurd (cc b)
last_of false b c none a e = absurd (cc a)

-- a code that is no right shift with a mask has no mask if it is the right shift
pub shift_unmasked : (code function group mask : ℕ) → function_of code ≡ function → group_of code ≡ group
    → is_masked_shift function group mask ≡ false → IsTrue (is_shift code) → mask ≡ 0
unfolding is_shift
shift_unmasked code function group mask function_is group_is unmasked shift =
    let parts = and_parts (eqb (function_of code) 0) (eqb (group_of code) 3) shift in
    let no_mask : not (eqb mask 0) ≡ false =
    last_of (eqb function 0) (eqb group 3) (not (eqb mask 0)) unmasked (sym (ap (λ (n : ℕ). eqb n 0) function_is) ∙ parts.0)
    (sym (ap (λ (n : ℕ). eqb n 3) group_is) ∙ parts.1) in
    eqb-true mask 0 (not-false (eqb mask 0) no_mask)
