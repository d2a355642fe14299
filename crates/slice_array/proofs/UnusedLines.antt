-- LI matters in the shift alone, and CI outside it.
use Rattle.std.proofs.Common.{ℕ, ◌≡◌, sym, ◌∙◌, true, false}
use Rattle.cpe_slice.specs.Registers.{Registers}
use Rattle.cpe_slice.specs.WordStep.{Inputs, operand_a, operand_b, logic_word, test_word, mar_after, result_word, link, array_step}
use Rattle.cpe_slice.specs.FunctionCode.{is_shift}
use Rattle.cpe_slice.proofs.Cases.{result_shift, link_shift}
use Rattle.slice_array.proofs.LinkBits.{bits_below_same}

-- outside the shift LI does not matter
pub array_step_li : (n code k m i ci x y : ℕ) (w : Registers) → is_shift code ≡ false
    → array_step n code (record { k = k; m = m; i = i; ci = ci; li = x }) w ≡ array_step n code
    (record { k = k; m = m; i = i; ci = ci; li = y }) w
unfolding array_step result_word link operand_a operand_b mar_after logic_word test_word
array_step_li n code k m i ci x y w e = simp e

-- in the shift CI does not matter
pub array_step_ci : (n code k m i li x y : ℕ) (w : Registers) → is_shift code ≡ true
    → array_step n code (record { k = k; m = m; i = i; ci = x; li = li }) w ≡ array_step n code
    (record { k = k; m = m; i = i; ci = y; li = li }) w
unfolding array_step mar_after
array_step_ci n code k m i li x y w e =
    let p : Inputs = record { k = k; m = m; i = i; ci = x; li = li } in
    let q : Inputs = record { k = k; m = m; i = i; ci = y; li = li } in
    rw (
      e,
      result_shift n code p w e,
      result_shift n code q w e,
      bits_below_same n (link n code p w) (link n code q w) (λ j. link_shift n code p w j e ∙ sym (link_shift n code q w j e)),
      link_shift n code p w 0 e,
      link_shift n code q w 0 e,
    )
