-- One clock of an array of n slices on whole words, n being any number. With W = 4 ^ n every register and
-- bus is below W. No slice occurs, and no carry is handed on: a link is told from the whole words alone.
-- The functions, groups and links are those of Intel's data sheet of the 3002. That the test words of
-- functions 6 and 7 are these is this project's own choice, as is which line ends in FI.
use Rattle.std.specs.Prelude.{ℕ, suc, zero, Bool, ◌+◌, ◌-◌, ◌*◌, ◌/◌, ◌%◌, ◌^◌, ◌==◌, ◌&&◌, nat_lt, not, if◌then◌else◌, bit_and, bit_or, bit_xor}
use Rattle.cpe_slice.specs.Registers.{Registers, get, set}
use Rattle.cpe_slice.specs.FunctionCode.{function_of, group_of, register_of, is_shift}

-- what stands on the buses K, M and I and on the lines CI and LI
pub record Inputs : Type 0 where
  pub k : ℕ
  pub m : ℕ
  pub i : ℕ
  pub ci : ℕ
  pub li : ℕ

-- the new registers, the number whose bit j is link j, and FI
pub record StepOutcome : Type 0 where
  pub registers : Registers
  pub links : ℕ
  pub fi : ℕ

-- 1 for true
abbrev pub bit : Bool → ℕ
bit b = if b then 1 else 0

-- the inputs where the two lines are truth values
abbrev pub inputs_of : ℕ → ℕ → ℕ → Bool → Bool → Inputs
inputs_of k m i ci li = record { k = k; m = m; i = i; ci = bit ci; li = bit li }

-- Rn (R0 to R9, T or AC) in group 1, M in group 2, AT (T or AC) in group 3
unfoldable pub source_word : ℕ → ℕ → Registers → ℕ
source_word code m w = if group_of code == 2 then m else get w (register_of code)

-- AC & K in groups 1 and 2, I & K in group 3
unfoldable pub masked_word : ℕ → ℕ → ℕ → Registers → ℕ
masked_word code k i w = bit_and (if group_of code == 3 then i else w.ac) k

-- functions 0 to 3, the first operand of the sum, where top is W - 1: in function 1 of group 3
-- not AT or K, in function 2 the masked word, else the source
unfoldable pub operand_a : ℕ → ℕ → Inputs → Registers → ℕ
operand_a top code b w =
    if function_of code == 1 then
    if group_of code == 3 then bit_or (top - source_word code b.m w) b.k else source_word code b.m w
    else if function_of code == 2 then masked_word code b.k b.i w
    else source_word code b.m w

-- functions 0 to 3, the second operand: in function 1 K, in its group 3 AT & K, in function 2 all ones
-- (which takes 1 away), else the masked word
unfoldable pub operand_b : ℕ → ℕ → Inputs → Registers → ℕ
operand_b top code b w =
    if function_of code == 1 then
    if group_of code == 3 then bit_and (source_word code b.m w) b.k else b.k
    else if function_of code == 2 then top
    else masked_word code b.k b.i w

-- functions 4 to 7, the result: and, K & source, or, exclusive nor
unfoldable pub logic_word : ℕ → ℕ → Inputs → Registers → ℕ
logic_word top code b w =
    if function_of code == 4 then bit_and (source_word code b.m w) (masked_word code b.k b.i w)
    else if function_of code == 5 then bit_and b.k (source_word code b.m w)
    else if function_of code == 6 then bit_or (source_word code b.m w) (masked_word code b.k b.i w)
    else top - bit_xor (source_word code b.m w) (masked_word code b.k b.i w)

-- functions 4 to 7, the word whose bits are or'ed into the links: the result in functions 4 and 5, the
-- masked word in function 6, source and masked word in function 7, all of the old registers
unfoldable pub test_word : ℕ → Inputs → Registers → ℕ
test_word code b w =
    if function_of code == 5 then bit_and b.k (source_word code b.m w)
    else if function_of code == 6 then masked_word code b.k b.i w
    else bit_and (source_word code b.m w) (masked_word code b.k b.i w)

-- the carry of the sum out of its lowest j base-4 digits
unfoldable pub sum_carry : ℕ → ℕ → ℕ → ℕ → ℕ
sum_carry a b ci j = (a % 4 ^ j + b % 4 ^ j + ci) / 4 ^ j

-- 1 where a number is not 0
abbrev pub any_bit : ℕ → ℕ
any_bit x = if x == 0 then 0 else 1

-- 1 where CI or one of the lowest j base-4 digits of the test word is not 0
unfoldable pub or_carry : ℕ → ℕ → ℕ → ℕ
or_carry t ci j = any_bit (ci + t % 4 ^ j)

-- the result: in the shift AT one place down, with LI as the high bit; in functions 0 to 3 the sum modulo
-- W; else the logical word
unfoldable pub result_word : ℕ → ℕ → Inputs → Registers → ℕ
result_word n code b w =
    if is_shift code then source_word code b.m w / 2 + b.li * (4 ^ n / 2)
    else if nat_lt (function_of code) 4 then
    (operand_a (4 ^ n - 1) code b w + operand_b (4 ^ n - 1) code b w + b.ci) % 4 ^ n
    else logic_word (4 ^ n - 1) code b w

-- link j: in the shift bit 2j of the old AT, else the carry out of the lowest j + 1 base-4 digits
unfoldable pub link : ℕ → ℕ → Inputs → Registers → ℕ → ℕ
link n code b w j =
    if is_shift code then source_word code b.m w / 4 ^ j % 2
    else if nat_lt (function_of code) 4 then
    sum_carry (operand_a (4 ^ n - 1) code b w) (operand_b (4 ^ n - 1) code b w) b.ci (j + 1)
    else or_carry (test_word code b w) b.ci (j + 1)

-- in function 1, groups 1 and 2, MAR takes K and the source, or'ed bit by bit
unfoldable pub mar_after : ℕ → Inputs → Registers → ℕ
mar_after code b w =
    if function_of code == 1 && not (group_of code == 3) then bit_or b.k (source_word code b.m w) else w.mar

-- the result goes to Rn or AT, and in function 0 of group 1 to AC too
unfoldable pub registers_after : ℕ → ℕ → Registers → Registers
registers_after code value w =
    if function_of code == 0 && group_of code == 1
    then record (set w (register_of code) value) { ac = value }
    else set w (register_of code) value

-- the number whose bit j is f j, for each j below n
unfoldable pub bits_below : ℕ → (ℕ → ℕ) → ℕ
bits_below zero f = 0
bits_below (suc n) f = bits_below n f + 2 ^ n * f n

-- one clock; FI is link 0 in the shift, and the last link otherwise
unfoldable pub array_step : ℕ → ℕ → Inputs → Registers → StepOutcome
array_step n code b w = record {
  registers = record (registers_after code (result_word n code b w) w) { mar = mar_after code b w };
  links = bits_below n (link n code b w);
  fi = if is_shift code then link n code b w 0 else link n code b w (n - 1);
}
