-- The table of the 3002 in Intel's data sheet, row by row: what a clock makes of the words in each function and group.
-- The words of an array of n slices are below 4 ^ n. That the test words of functions 6 and 7 are these is this project's
-- own choice.
use Rattle.std.specs.Prelude.{ℕ, false, ◌≡◌, ◌<◌, ◌+◌, ◌-◌, ◌*◌, ◌/◌, ◌%◌, ◌^◌, bit_and, bit_or, bit_xor}
use Rattle.cpe_slice.specs.Registers.{Registers, get, set}
use Rattle.cpe_slice.specs.FunctionCode.{function_of, group_of, register_of, is_shift}
use Rattle.cpe_slice.specs.WordStep.{Inputs, result_word, test_word, mar_after, link, sum_carry, or_carry, bits_below, array_step}

-- in this function and group the result is this
abbrev pub ResultIs : ℕ → ℕ → (ℕ → ℕ → Inputs → Registers → ℕ) → Type 0
ResultIs function group value =
    (n code : ℕ) (b : Inputs) (w : Registers) → function_of code ≡ function → group_of code ≡ group
    → result_word n code b w ≡ value n code b w

-- in this function and group the word that the OR chain tests is this
abbrev pub TestWordIs : ℕ → ℕ → (ℕ → Inputs → Registers → ℕ) → Type 0
TestWordIs function group value =
    (code : ℕ) (b : Inputs) (w : Registers) → function_of code ≡ function → group_of code ≡ group → test_word code b w ≡ value code b w

-- in this function and group MAR becomes this
abbrev pub MarIs : ℕ → ℕ → (ℕ → Inputs → Registers → ℕ) → Type 0
MarIs function group value =
    (code : ℕ) (b : Inputs) (w : Registers) → function_of code ≡ function → group_of code ≡ group → mar_after code b w ≡ value code b w

-- in this function and group link j is the carry of the sum of these two words and CI out of the lowest j + 1 base-4 digits
abbrev pub LinksCarry : ℕ → ℕ → (ℕ → ℕ → Inputs → Registers → ℕ) → (ℕ → ℕ → Inputs → Registers → ℕ) → Type 0
LinksCarry function group first second =
    (n code : ℕ) (b : Inputs) (w : Registers) (j : ℕ) → function_of code ≡ function → group_of code ≡ group
    → link n code b w j ≡ sum_carry (first n code b w) (second n code b w) b.ci (j + 1)

-- the registers where the one that the code names takes the result, MAR this, and the others what they held
abbrev pub with_result : ℕ → ℕ → Inputs → Registers → ℕ → Registers
with_result n code b w mar = record (set w (register_of code) (result_word n code b w)) { mar = mar }

-- the result of each function in each group
pub record TableOfResults : Type 0 where
  pub function_0_group_1 : ResultIs 0 1 (λ n code b w. (get w (register_of code) + bit_and w.ac b.k + b.ci) % 4 ^ n)
  pub function_0_group_2 : ResultIs 0 2 (λ n code b w. (b.m + bit_and w.ac b.k + b.ci) % 4 ^ n)
  pub function_0_group_3 : ResultIs 0 3 (λ n code b w. get w (register_of code) / 2 + b.li * (4 ^ n / 2))
  pub function_1_group_1 : ResultIs 1 1 (λ n code b w. (get w (register_of code) + b.k + b.ci) % 4 ^ n)
  pub function_1_group_2 : ResultIs 1 2 (λ n code b w. (b.m + b.k + b.ci) % 4 ^ n)
  pub function_1_group_3 : ResultIs 1 3
      (λ n code b w. (bit_or (4 ^ n - 1 - get w (register_of code)) b.k + bit_and (get w (register_of code)) b.k + b.ci) % 4 ^ n)
  pub function_2_group_1 : ResultIs 2 1 (λ n code b w. (bit_and w.ac b.k + (4 ^ n - 1) + b.ci) % 4 ^ n)
  pub function_2_group_2 : ResultIs 2 2 (λ n code b w. (bit_and w.ac b.k + (4 ^ n - 1) + b.ci) % 4 ^ n)
  pub function_2_group_3 : ResultIs 2 3 (λ n code b w. (bit_and b.i b.k + (4 ^ n - 1) + b.ci) % 4 ^ n)
  pub function_3_group_1 : ResultIs 3 1 (λ n code b w. (get w (register_of code) + bit_and w.ac b.k + b.ci) % 4 ^ n)
  pub function_3_group_2 : ResultIs 3 2 (λ n code b w. (b.m + bit_and w.ac b.k + b.ci) % 4 ^ n)
  pub function_3_group_3 : ResultIs 3 3 (λ n code b w. (get w (register_of code) + bit_and b.i b.k + b.ci) % 4 ^ n)
  pub function_4_group_1 : ResultIs 4 1 (λ n code b w. bit_and (get w (register_of code)) (bit_and w.ac b.k))
  pub function_4_group_2 : ResultIs 4 2 (λ n code b w. bit_and b.m (bit_and w.ac b.k))
  pub function_4_group_3 : ResultIs 4 3 (λ n code b w. bit_and (get w (register_of code)) (bit_and b.i b.k))
  pub function_5_group_1 : ResultIs 5 1 (λ n code b w. bit_and b.k (get w (register_of code)))
  pub function_5_group_2 : ResultIs 5 2 (λ n code b w. bit_and b.k b.m)
  pub function_5_group_3 : ResultIs 5 3 (λ n code b w. bit_and b.k (get w (register_of code)))
  pub function_6_group_1 : ResultIs 6 1 (λ n code b w. bit_or (get w (register_of code)) (bit_and w.ac b.k))
  pub function_6_group_2 : ResultIs 6 2 (λ n code b w. bit_or b.m (bit_and w.ac b.k))
  pub function_6_group_3 : ResultIs 6 3 (λ n code b w. bit_or (get w (register_of code)) (bit_and b.i b.k))
  pub function_7_group_1 : ResultIs 7 1 (λ n code b w. 4 ^ n - 1 - bit_xor (get w (register_of code)) (bit_and w.ac b.k))
  pub function_7_group_2 : ResultIs 7 2 (λ n code b w. 4 ^ n - 1 - bit_xor b.m (bit_and w.ac b.k))
  pub function_7_group_3 : ResultIs 7 3 (λ n code b w. 4 ^ n - 1 - bit_xor (get w (register_of code)) (bit_and b.i b.k))

-- the word that the OR chain tests, of each function that has one
pub record TableOfTestWords : Type 0 where
  pub function_4_group_1 : TestWordIs 4 1 (λ code b w. bit_and (get w (register_of code)) (bit_and w.ac b.k))
  pub function_4_group_2 : TestWordIs 4 2 (λ code b w. bit_and b.m (bit_and w.ac b.k))
  pub function_4_group_3 : TestWordIs 4 3 (λ code b w. bit_and (get w (register_of code)) (bit_and b.i b.k))
  pub function_5_group_1 : TestWordIs 5 1 (λ code b w. bit_and b.k (get w (register_of code)))
  pub function_5_group_2 : TestWordIs 5 2 (λ code b w. bit_and b.k b.m)
  pub function_5_group_3 : TestWordIs 5 3 (λ code b w. bit_and b.k (get w (register_of code)))
  pub function_6_group_1 : TestWordIs 6 1 (λ code b w. bit_and w.ac b.k)
  pub function_6_group_2 : TestWordIs 6 2 (λ code b w. bit_and w.ac b.k)
  pub function_6_group_3 : TestWordIs 6 3 (λ code b w. bit_and b.i b.k)
  pub function_7_group_1 : TestWordIs 7 1 (λ code b w. bit_and (get w (register_of code)) (bit_and w.ac b.k))
  pub function_7_group_2 : TestWordIs 7 2 (λ code b w. bit_and b.m (bit_and w.ac b.k))
  pub function_7_group_3 : TestWordIs 7 3 (λ code b w. bit_and (get w (register_of code)) (bit_and b.i b.k))

-- MAR after function 1, which alone may change it
pub record TableOfMar : Type 0 where
  pub function_1_group_1 : MarIs 1 1 (λ code b w. bit_or b.k (get w (register_of code)))
  pub function_1_group_2 : MarIs 1 2 (λ code b w. bit_or b.k b.m)
  pub function_1_group_3 : MarIs 1 3 (λ code b w. w.mar)

-- where the result goes: into the register that the code names, and in function 0 of group 1 into AC too. MAR changes in
-- function 1 alone, and each other register stays
pub record TableOfTargets : Type 0 where
  pub function_0_group_1 : (n code : ℕ) (b : Inputs) (w : Registers) → function_of code ≡ 0 → group_of code ≡ 1
      → (array_step n code b w).registers ≡ record (with_result n code b w w.mar) { ac = result_word n code b w }
  pub function_0_group_2 : (n code : ℕ) (b : Inputs) (w : Registers) → function_of code ≡ 0 → group_of code ≡ 2
      → (array_step n code b w).registers ≡ with_result n code b w w.mar
  pub function_0_group_3 : (n code : ℕ) (b : Inputs) (w : Registers) → function_of code ≡ 0 → group_of code ≡ 3
      → (array_step n code b w).registers ≡ with_result n code b w w.mar
  pub function_1 : (n code : ℕ) (b : Inputs) (w : Registers) → function_of code ≡ 1
      → (array_step n code b w).registers ≡ with_result n code b w (mar_after code b w)
  pub functions_2_to_7 : (n code : ℕ) (b : Inputs) (w : Registers) → 1 < function_of code
      → (array_step n code b w).registers ≡ with_result n code b w w.mar

-- the links: in functions 0 to 3 the carries of the sum, in the shift the lower bits of AT's base-4 digits, and in functions
-- 4 to 7 the OR of CI and the lower digits of the word that is tested
pub record TableOfLinks : Type 0 where
  pub function_0_group_1 : LinksCarry 0 1 (λ n code b w. get w (register_of code)) (λ n code b w. bit_and w.ac b.k)
  pub function_0_group_2 : LinksCarry 0 2 (λ n code b w. b.m) (λ n code b w. bit_and w.ac b.k)
  pub function_0_group_3 : (n code : ℕ) (b : Inputs) (w : Registers) (j : ℕ) → function_of code ≡ 0 → group_of code ≡ 3
      → link n code b w j ≡ get w (register_of code) / 4 ^ j % 2
  pub function_1_group_1 : LinksCarry 1 1 (λ n code b w. get w (register_of code)) (λ n code b w. b.k)
  pub function_1_group_2 : LinksCarry 1 2 (λ n code b w. b.m) (λ n code b w. b.k)
  pub function_1_group_3 : LinksCarry 1 3 (λ n code b w. bit_or (4 ^ n - 1 - get w (register_of code)) b.k)
      (λ n code b w. bit_and (get w (register_of code)) b.k)
  pub function_2_group_1 : LinksCarry 2 1 (λ n code b w. bit_and w.ac b.k) (λ n code b w. 4 ^ n - 1)
  pub function_2_group_2 : LinksCarry 2 2 (λ n code b w. bit_and w.ac b.k) (λ n code b w. 4 ^ n - 1)
  pub function_2_group_3 : LinksCarry 2 3 (λ n code b w. bit_and b.i b.k) (λ n code b w. 4 ^ n - 1)
  pub function_3_group_1 : LinksCarry 3 1 (λ n code b w. get w (register_of code)) (λ n code b w. bit_and w.ac b.k)
  pub function_3_group_2 : LinksCarry 3 2 (λ n code b w. b.m) (λ n code b w. bit_and w.ac b.k)
  pub function_3_group_3 : LinksCarry 3 3 (λ n code b w. get w (register_of code)) (λ n code b w. bit_and b.i b.k)
  pub functions_4_to_7 : (n code : ℕ) (b : Inputs) (w : Registers) (j : ℕ) → 3 < function_of code
      → link n code b w j ≡ or_carry (test_word code b w) b.ci (j + 1)

-- what an array gives besides its registers: all its links, and as FI the lowest bit of AT in the shift and its last link
-- otherwise. CO of a slice is its FI outside the shift, RO its FI in the shift
pub record TableOfOutputs : Type 0 where
  pub links : (n code : ℕ) (b : Inputs) (w : Registers) → (array_step n code b w).links ≡ bits_below n (link n code b w)
  pub fi_of_the_shift : (n code : ℕ) (b : Inputs) (w : Registers) → function_of code ≡ 0 → group_of code ≡ 3
      → (array_step n code b w).fi ≡ get w (register_of code) % 2
  pub fi_of_all_others : (n code : ℕ) (b : Inputs) (w : Registers) → is_shift code ≡ false
      → (array_step n code b w).fi ≡ link n code b w (n - 1)
