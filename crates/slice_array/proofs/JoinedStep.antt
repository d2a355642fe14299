-- Outside the shift, the step of a slice joined below whole words: the link of the slice goes into the step of the
-- words above.
use Rattle.std.proofs.Common.{ℕ, suc, ◌+◌, ◌-◌, ◌*◌, ◌/◌, ◌%◌, ◌^◌, ◌<◌, ◌≡◌, ap, ◌∙◌, arith, true, false, inl, inr, nat_lt}
use Rattle.cpe_slice.specs.WordStep.{sum_carry, or_carry, any_bit, Inputs, operand_a, operand_b, test_word, mar_after, result_word, link, bits_below, array_step}
use Rattle.cpe_slice.specs.Registers.{Registers}
use Rattle.cpe_slice.specs.FunctionCode.{function_of, is_shift}
use Rattle.slice_array.specs.Whole.{join}
use Rattle.std.proofs.lemmas.Bool.{cases_Bool}
use Rattle.cpe_slice.proofs.Cases.{result_sum, result_logic, link_sum, link_logic}
use Rattle.slice_array.proofs.BaseFour.{sum_digits_by, sum_carry_by, or_carry_by}
use Rattle.slice_array.proofs.JoinedOperands.{join_inputs, IsDigits, IsWhole, ten_each, operand_a_join, operand_b_join, logic_word_join, test_word_join, mar_after_join, registers_after_join, operand_a_below, operand_b_below, test_word_below}
use Rattle.slice_array.proofs.LinkBits.{bits_below_first, bits_below_same}

-- the carry out of one digit
sum_carry_one : (r s c : ℕ) → r < 4 → s < 4 → sum_carry r s c 1 ≡ (r + s + c) / 4
unfolding sum_carry
sum_carry_one r s c p q = let a : r % 4 ≡ r = omega arith in let b : s % 4 ≡ s = omega arith in rw (a, b)

-- the or of one digit
or_carry_one : (t c : ℕ) → t < 4 → or_carry t c 1 ≡ any_bit (c + t)
unfolding or_carry
or_carry_one t c p = let a : t % 4 ≡ t = omega arith in rw a

-- the result in functions 0 to 3
pub result_join_sum : (code n : ℕ) (p q : Inputs) (s w : Registers) → IsDigits p s → IsWhole n q w
    → is_shift code ≡ false → nat_lt (function_of code) 4 ≡ true → q.ci ≡ link 1 code p s 0
    → result_word (suc n) code (join_inputs p q) (join s w) ≡ result_word n code q w * 4 + result_word 1 code p s
result_join_sum code n p q s w d h e f c =
    let carry : q.ci ≡ (operand_a 3 code p s + operand_b 3 code p s + p.ci) / 4 =
    c ∙ link_sum 1 code p s 0 e f
    ∙ sum_carry_one (operand_a 3 code p s) (operand_b 3 code p s) p.ci (operand_a_below code p s d) (operand_b_below code p s d) in
    rw (
      result_sum (suc n) code (join_inputs p q) (join s w) e f,
      result_sum n code q w e f,
      result_sum 1 code p s e f,
      operand_a_join code n p q s w d h,
      operand_b_join code n p q s w d h,
    )
    (sum_digits_by n (operand_a (4 ^ n - 1) code q w) (operand_b (4 ^ n - 1) code q w) (operand_a 3 code p s) (operand_b 3 code p s)
    p.ci q.ci carry)

-- the result in functions 4 to 7
pub result_join_logic : (code n : ℕ) (p q : Inputs) (s w : Registers) → IsDigits p s → IsWhole n q w
    → is_shift code ≡ false → nat_lt (function_of code) 4 ≡ false
    → result_word (suc n) code (join_inputs p q) (join s w) ≡ result_word n code q w * 4 + result_word 1 code p s
result_join_logic code n p q s w d h e f =
    rw (result_logic (suc n) code (join_inputs p q) (join s w) e f, result_logic n code q w e f, result_logic 1 code p s e f)
    (logic_word_join code n p q s w d h)

-- the links above the lowest, in functions 0 to 3
pub link_join_sum : (code n j : ℕ) (p q : Inputs) (s w : Registers) → IsDigits p s → IsWhole n q w
    → is_shift code ≡ false → nat_lt (function_of code) 4 ≡ true → q.ci ≡ link 1 code p s 0
    → link (suc n) code (join_inputs p q) (join s w) (suc j) ≡ link n code q w j
link_join_sum code n j p q s w d h e f c =
    let carry : q.ci ≡ (operand_a 3 code p s + operand_b 3 code p s + p.ci) / 4 =
    c ∙ link_sum 1 code p s 0 e f
    ∙ sum_carry_one (operand_a 3 code p s) (operand_b 3 code p s) p.ci (operand_a_below code p s d) (operand_b_below code p s d) in
    rw (
      link_sum (suc n) code (join_inputs p q) (join s w) (suc j) e f,
      link_sum n code q w j e f,
      operand_a_join code n p q s w d h,
      operand_b_join code n p q s w d h,
    )
    (sum_carry_by (operand_a (4 ^ n - 1) code q w) (operand_b (4 ^ n - 1) code q w) (operand_a 3 code p s) (operand_b 3 code p s)
    p.ci q.ci (suc j + 1) (j + 1) (operand_a_below code p s d) (operand_b_below code p s d) carry (omega arith))

-- the links above the lowest, in functions 4 to 7
pub link_join_logic : (code n j : ℕ) (p q : Inputs) (s w : Registers) → IsDigits p s → IsWhole n q w
    → is_shift code ≡ false → nat_lt (function_of code) 4 ≡ false → q.ci ≡ link 1 code p s 0
    → link (suc n) code (join_inputs p q) (join s w) (suc j) ≡ link n code q w j
link_join_logic code n j p q s w d h e f c =
    let carry : q.ci ≡ any_bit (p.ci + test_word code p s) = c ∙ link_logic 1 code p s 0 e f
    ∙ or_carry_one (test_word code p s) p.ci (test_word_below code p s d) in
    rw (link_logic (suc n) code (join_inputs p q) (join s w) (suc j) e f, link_logic n code q w j e f, test_word_join code n p q s w d h)
    (or_carry_by (test_word code q w) (test_word code p s) p.ci q.ci (suc j + 1) (j + 1) (test_word_below code p s d) carry (omega arith))

-- the lowest link is that of the slice, in functions 0 to 3
pub link_zero_sum : (code n : ℕ) (p q : Inputs) (s w : Registers) → IsDigits p s → IsWhole n q w
    → is_shift code ≡ false → nat_lt (function_of code) 4 ≡ true
    → link (suc n) code (join_inputs p q) (join s w) 0 ≡ link 1 code p s 0
unfolding sum_carry
link_zero_sum code n p q s w d h e f =
    rw (
      link_sum (suc n) code (join_inputs p q) (join s w) 0 e f,
      link_sum 1 code p s 0 e f,
      operand_a_join code n p q s w d h,
      operand_b_join code n p q s w d h,
    )
    (low (operand_a (4 ^ n - 1) code q w) (operand_b (4 ^ n - 1) code q w) (operand_a 3 code p s) (operand_b 3 code p s) p.ci)
  where
    low : (a b r s c : ℕ) → ((a * 4 + r) % 4 + (b * 4 + s) % 4 + c) / 4 ≡ (r % 4 + s % 4 + c) / 4
    low a b r s c = let u : (a * 4 + r) % 4 ≡ r % 4 = omega arith in let v : (b * 4 + s) % 4 ≡ s % 4 = omega arith in rw (u, v)

-- the lowest link is that of the slice, in functions 4 to 7
pub link_zero_logic : (code n : ℕ) (p q : Inputs) (s w : Registers) → IsDigits p s → IsWhole n q w
    → is_shift code ≡ false → nat_lt (function_of code) 4 ≡ false
    → link (suc n) code (join_inputs p q) (join s w) 0 ≡ link 1 code p s 0
unfolding or_carry
link_zero_logic code n p q s w d h e f =
    rw (link_logic (suc n) code (join_inputs p q) (join s w) 0 e f, link_logic 1 code p s 0 e f, test_word_join code n p q s w d h)
    (let u : (test_word code q w * 4 + test_word code p s) % 4 ≡ test_word code p s % 4 = omega arith in rw u)

-- the result in all functions
pub result_join : (code n : ℕ) (p q : Inputs) (s w : Registers) → IsDigits p s → IsWhole n q w → is_shift code ≡ false
    → q.ci ≡ link 1 code p s 0
    → result_word (suc n) code (join_inputs p q) (join s w) ≡ result_word n code q w * 4 + result_word 1 code p s
result_join code n p q s w d h e c =
    elim (cases_Bool (nat_lt (function_of code) 4))
    [ inl f ↦ result_join_sum code n p q s w d h e f c | inr f ↦ result_join_logic code n p q s w d h e f ]

-- the links above the lowest in all functions
pub link_join : (code n j : ℕ) (p q : Inputs) (s w : Registers) → IsDigits p s → IsWhole n q w → is_shift code ≡ false
    → q.ci ≡ link 1 code p s 0
    → link (suc n) code (join_inputs p q) (join s w) (suc j) ≡ link n code q w j
link_join code n j p q s w d h e c =
    elim (cases_Bool (nat_lt (function_of code) 4))
    [ inl f ↦ link_join_sum code n j p q s w d h e f c | inr f ↦ link_join_logic code n j p q s w d h e f c ]

-- the lowest link in all functions
pub link_zero : (code n : ℕ) (p q : Inputs) (s w : Registers) → IsDigits p s → IsWhole n q w → is_shift code ≡ false
    → link (suc n) code (join_inputs p q) (join s w) 0 ≡ link 1 code p s 0
link_zero code n p q s w d h e =
    elim (cases_Bool (nat_lt (function_of code) 4))
    [ inl f ↦ link_zero_sum code n p q s w d h e f | inr f ↦ link_zero_logic code n p q s w d h e f ]

-- all links as one number
pub links_join : (code n : ℕ) (p q : Inputs) (s w : Registers) → IsDigits p s → IsWhole n q w → is_shift code ≡ false
    → q.ci ≡ link 1 code p s 0
    → bits_below (suc n) (link (suc n) code (join_inputs p q) (join s w)) ≡ link 1 code p s 0 + 2 * bits_below n (link n code q w)
links_join code n p q s w d h e c =
    rw (
      bits_below_first n (link (suc n) code (join_inputs p q) (join s w)),
      link_zero code n p q s w d h e,
      bits_below_same n (λ j. link (suc n) code (join_inputs p q) (join s w) (suc j)) (link n code q w)
          (λ j. link_join code n j p q s w d h e c),
    )

-- all registers
pub registers_join : (code n : ℕ) (p q : Inputs) (s w : Registers) → IsDigits p s → IsWhole n q w → is_shift code ≡ false
    → q.ci ≡ link 1 code p s 0
    → (array_step (suc n) code (join_inputs p q) (join s w)).registers ≡ join (array_step 1 code p s).registers
    (array_step n code q w).registers
unfolding array_step
registers_join code n p q s w d h e c =
    rw (result_join code n p q s w d h e c, mar_after_join code n p q s w d h)
    (ap (λ (o : Registers). record o { mar = mar_after code q w * 4 + mar_after code p s })
    (registers_after_join code (result_word 1 code p s) (result_word n code q w) s w (ten_each p s n q w d h)))
