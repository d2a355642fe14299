-- `result_word` and `link` in each of the three families.
use Rattle.std.proofs.Common.{ℕ, ◌<◌, ◌≤◌, ◌+◌, ◌-◌, ◌/◌, ◌%◌, ◌^◌, ◌*◌, ◌≡◌, Bool, true, false, if◌then◌else◌, refl, nat_lt, nat_eq, not, ◌||◌, ◌∙◌, sym, arith}
use Rattle.std.proofs.lemmas.Bool.{lt-ltb, le-ltb}
use Rattle.std.proofs.lemmas.Bool.Decides.{nat_tests}
use lib.Dec.{leb}
use mir.Val.{bool_byte}
use Rattle.cpe_slice.specs.Registers.{Registers}
use Rattle.cpe_slice.specs.FunctionCode.{function_of, is_shift}
use Rattle.cpe_slice.specs.WordStep.{Inputs, source_word, operand_a, operand_b, logic_word, test_word, sum_carry, or_carry, bit, result_word, link}

-- the result in the shift
pub result_shift : (n code : ℕ) (b : Inputs) (w : Registers) → is_shift code ≡ true
    → result_word n code b w ≡ source_word code b.m w / 2 + b.li * (4 ^ n / 2)
unfolding result_word
result_shift n code b w e = rw e

-- the result in functions 0 to 3
pub result_sum : (n code : ℕ) (b : Inputs) (w : Registers) → is_shift code ≡ false → nat_lt (function_of code) 4 ≡ true
    → result_word n code b w ≡ (operand_a (4 ^ n - 1) code b w + operand_b (4 ^ n - 1) code b w + b.ci) % 4 ^ n
unfolding result_word
result_sum n code b w e f = rw (e, f)

-- the result in functions 4 to 7
pub result_logic : (n code : ℕ) (b : Inputs) (w : Registers) → is_shift code ≡ false → nat_lt (function_of code) 4 ≡ false
    → result_word n code b w ≡ logic_word (4 ^ n - 1) code b w
unfolding result_word
result_logic n code b w e f = rw (e, f)

-- a link in the shift
pub link_shift : (n code : ℕ) (b : Inputs) (w : Registers) (j : ℕ) → is_shift code ≡ true
    → link n code b w j ≡ source_word code b.m w / 4 ^ j % 2
unfolding link
link_shift n code b w j e = rw e

-- a link in functions 0 to 3
pub link_sum : (n code : ℕ) (b : Inputs) (w : Registers) (j : ℕ) → is_shift code ≡ false → nat_lt (function_of code) 4 ≡ true
    → link n code b w j ≡ sum_carry (operand_a (4 ^ n - 1) code b w) (operand_b (4 ^ n - 1) code b w) b.ci (j + 1)
unfolding link
link_sum n code b w j e f = rw (e, f)

-- a link in functions 4 to 7
pub link_logic : (n code : ℕ) (b : Inputs) (w : Registers) (j : ℕ) → is_shift code ≡ false → nat_lt (function_of code) 4 ≡ false
    → link n code b w j ≡ or_carry (test_word code b w) b.ci (j + 1)
unfolding link
link_logic n code b w j e f = rw (e, f)

-- at one slice, the sum that the code makes is the result
pub sum_value : (code : ℕ) (b : Inputs) (w : Registers) (x y z : ℕ) → false ≡ is_shift code → function_of code < 4
    → x ≡ operand_a 3 code b w → y ≡ operand_b 3 code b w → z ≡ b.ci → (x + y + z) % 4 ≡ result_word 1 code b w
sum_value code b w x y z e f p q r = rw (p, q, r) (sym (result_sum 1 code b w (sym e) (lt-ltb _ _ f)))

-- a sum of two digits carries where it is 4 or more
carried : (x y c : ℕ) → x < 4 → y < 4 → c ≤ 1 → bit (leb 4 (x + y + c)) ≡ (x % 4 + y % 4 + c) / 4
carried x y c p q r = grind (arith, nat_tests)

-- at one slice, the carry of the sum is CO
pub sum_co : (code : ℕ) (b : Inputs) (w : Registers) (x y z : ℕ) → false ≡ is_shift code → function_of code < 4 → x < 4 → y < 4 → b.ci ≤ 1
    → x ≡ operand_a 3 code b w → y ≡ operand_b 3 code b w → z ≡ b.ci
    → bit (leb 4 (x + y + z)) ≡ (if is_shift code then 0 else link 1 code b w 0)
unfolding sum_carry
sum_co code b w x y z e f xs ys c p q r = rw (← e, link_sum 1 code b w 0 (sym e) (lt-ltb _ _ f), ← p, ← q, r) (carried x y b.ci xs ys c)

-- at one slice, the logical word is the result
pub logic_value : (code : ℕ) (b : Inputs) (w : Registers) (x : ℕ) → false ≡ is_shift code → 4 ≤ function_of code
    → x ≡ logic_word 3 code b w → x ≡ result_word 1 code b w
logic_value code b w x e f p = p ∙ sym (result_logic 1 code b w (sym e) (le-ltb _ _ f))

-- CI or any bit of a digit, as a truth value and as a number
ored : (c : Bool) (t : ℕ) → t < 4 → bit (c || not (nat_eq t 0)) ≡ (if nat_eq (bit c + t % 4) 0 then 0 else 1)
ored true t h = grind (arith, nat_tests)
ored false t h = grind (arith, nat_tests)

-- at one slice, CI or any bit of the test word is CO
pub logic_co : (code : ℕ) (b : Inputs) (w : Registers) (c : Bool) (t : ℕ) → false ≡ is_shift code → 4 ≤ function_of code → t < 4
    → b.ci ≡ bit c
    → t ≡ test_word code b w → bit (c || not (nat_eq t 0)) ≡ (if is_shift code then 0 else link 1 code b w 0)
unfolding or_carry
logic_co code b w c t e f h r p = rw (← e, link_logic 1 code b w 0 (sym e) (le-ltb _ _ f), ← p, r) (ored c t h)

-- at one slice, the low bit is RO
pub shift_ro : (code : ℕ) (b : Inputs) (w : Registers) (x : ℕ) → true ≡ is_shift code → x ≡ source_word code b.m w
    → bit (nat_eq (x % 2) 1) ≡ (if is_shift code then link 1 code b w 0 else 0)
shift_ro code b w x e p = rw (← e, link_shift 1 code b w 0 (sym e), ← p) (grind (arith, nat_tests))

-- a truth value as a byte
pub byte_bit : (b : Bool) → bool_byte b ≡ bit b
byte_bit true = refl
byte_bit false = refl

-- a truth value is at most 1
pub bit_le : (b : Bool) → bit b ≤ 1
bit_le true = omega arith
bit_le false = omega arith
