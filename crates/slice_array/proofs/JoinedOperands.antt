-- A slice joined below whole words: each word of the array step is that of the words above with that of the slice
-- below it.
use Rattle.std.proofs.Common.{ℕ, zero, suc, ◌+◌, ◌-◌, ◌*◌, ◌^◌, ◌<◌, ◌≤◌, ◌≡◌, bit_and, bit_or, bit_xor, sym, ap, ◌∙◌, arith, ◌==◌, Bool, true, false, if◌then◌else◌, refl, List, [], ◌∷◌, inl, inr, length, get_or, set as put_at, All, not, ◌&&◌}
use Rattle.cpe_slice.specs.declared.register.Reg.{Reg}
use Rattle.cpe_slice.specs.declared.register.Reg.TheVariants.{R, T, Ac}
use Rattle.cpe_slice.specs.Registers.{Registers, AllBelow, get, set}
use Rattle.cpe_slice.specs.FunctionCode.{function_of, group_of, register_of}
use Rattle.cpe_slice.specs.WordStep.{Inputs, source_word, masked_word, operand_a, operand_b, logic_word, test_word, mar_after, registers_after}
use Rattle.std.proofs.lemmas.Bool.{cases_lt}
use Rattle.std.proofs.lemmas.List.Elements.{All-get_or}
use Rattle.std.proofs.lemmas.Nat.{and_le_l, and_le_r, or_lt, xor_lt}
use Rattle.std.proofs.Math.Nat.{lt_of_le_of_lt}
use Rattle.std.proofs.Math.ListN.{get_or-eq_default}
use Rattle.slice_array.specs.Whole.{join, join_list}
use Rattle.slice_array.proofs.BaseFour.{pow4_pos, xor_below, and_digits, or_digits, xor_digits, top_digits, not_digits}
use Rattle.slice_array.proofs.WholeWords.{index_join}

-- a digit of each bus below the rest of it; CI goes in at the lowest slice and LI at the highest
abbrev pub join_inputs : Inputs → Inputs → Inputs
join_inputs p q = record { k = q.k * 4 + p.k; m = q.m * 4 + p.m; i = q.i * 4 + p.i; ci = p.ci; li = q.li }

-- the digits of the buses, and a slice
pub record IsDigits (p : Inputs) (s : Registers) : Type 0 where
  pub k : p.k < 4
  pub m : p.m < 4
  pub i : p.i < 4
  pub registers : AllBelow 4 s

-- buses and words of n slices
pub record IsWhole (n : ℕ) (q : Inputs) (w : Registers) : Type 0 where
  pub k : q.k < 4 ^ n
  pub m : q.m < 4 ^ n
  pub i : q.i < 4 ^ n
  pub registers : AllBelow (4 ^ n) w

-- slice and words have as many registers R
pub ten_each : (p : Inputs) (s : Registers) (n : ℕ) (q : Inputs) (w : Registers) → IsDigits p s → IsWhole n q w → length s.r ≡ length w.r
ten_each p s n q w d h = d.registers.ten ∙ sym h.registers.ten

-- a number put among joined numbers is put among digits and among the rest
set_join_list : (ds ws : List ℕ) (n d v : ℕ) → length ds ≡ length ws
    → put_at (join_list ds ws) n (v * 4 + d) ≡ join_list (put_at ds n d) (put_at ws n v)
set_join_list [] [] n d v e = refl
set_join_list [] (w ∷ ws) n d v e = absurd (omega arith)
set_join_list (x ∷ ds) [] n d v e = absurd (omega arith)
set_join_list (x ∷ ds) (w ∷ ws) zero d v e = refl
set_join_list (x ∷ ds) (w ∷ ws) (suc n) d v e = ap (λ l. (w * 4 + x) ∷ l) (set_join_list ds ws n d v (omega arith))

-- what a register of the join holds
pub get_join : (s w : Registers) (reg : Reg) → length s.r ≡ length w.r → get (join s w) reg ≡ get w reg * 4 + get s reg
get_join s w (R n) e = index_join s.r w.r n e
get_join s w T e = refl
get_join s w Ac e = refl

-- a value put into a register of the join
pub set_join : (s w : Registers) (reg : Reg) (d v : ℕ) → length s.r ≡ length w.r
    → set (join s w) reg (v * 4 + d) ≡ join (set s reg d) (set w reg v)
set_join s w (R n) d v e = ap (λ l. record (join s w) { r = l }) (set_join_list s.r w.r n d v e)
set_join s w T d v e = refl
set_join s w Ac d v e = refl

-- the source
pub source_word_join : (code n : ℕ) (p q : Inputs) (s w : Registers) → IsDigits p s → IsWhole n q w
    → source_word code (q.m * 4 + p.m) (join s w) ≡ source_word code q.m w * 4 + source_word code p.m s
unfolding source_word
source_word_join code n p q s w d h =
    elim (group_of code == 2) as
    (λ g. (if g then q.m * 4 + p.m else get (join s w) (register_of code)) ≡ (if g then q.m else get w (register_of code))
    * 4 + (if g then p.m else get s (register_of code)))
    [ true ↦ refl | false ↦ get_join s w (register_of code) (ten_each p s n q w d h) ]

-- the masked word
pub masked_word_join : (code n : ℕ) (p q : Inputs) (s w : Registers) → IsDigits p s
    → masked_word code (q.k * 4 + p.k) (q.i * 4 + p.i) (join s w) ≡ masked_word code q.k q.i w * 4 + masked_word code p.k p.i s
unfolding masked_word
masked_word_join code n p q s w d =
    elim (group_of code == 3) as
    (λ g. bit_and (if g then q.i * 4 + p.i else w.ac * 4 + s.ac) (q.k * 4 + p.k) ≡ bit_and (if g then q.i else w.ac) q.k * 4 + bit_and
    (if g then p.i else s.ac) p.k)
    [ true ↦ and_digits q.i q.k p.i p.k d.i d.k | false ↦ and_digits w.ac q.k s.ac p.k d.registers.ac d.k ]

-- a register R is below the limit, also past the tenth
index_below : (xs : List ℕ) (n limit : ℕ) → 0 < limit → All (λ x. x < limit) xs → get_or xs n 0 < limit
index_below xs n limit h a =
    elim (cases_lt n (length xs)) [ inl p ↦ All-get_or (λ (x : ℕ). x < limit) xs n 0 p a | inr p ↦ rw (get_or-eq_default xs 0 p) h ]

-- a register is below the limit
get_below : (limit : ℕ) (w : Registers) (reg : Reg) → 0 < limit → AllBelow limit w → get w reg < limit
get_below limit w (R n) h a = index_below w.r n limit h a.r
get_below limit w T h a = a.t
get_below limit w Ac h a = a.ac

-- the source is below the limit
pub source_word_below : (limit code m : ℕ) (w : Registers) → 0 < limit → m < limit → AllBelow limit w → source_word code m w < limit
unfolding source_word
source_word_below limit code m w h p a =
    elim (group_of code == 2) as (λ g. (if g then m else get w (register_of code)) < limit)
    [ true ↦ p | false ↦ get_below limit w (register_of code) h a ]

-- the masked word is below the limit
pub masked_word_below : (limit code k i : ℕ) (w : Registers) → 0 < limit → k < limit → masked_word code k i w < limit
unfolding masked_word
masked_word_below limit code k i w h p = lt_of_le_of_lt (and_le_r _ k) p

-- the first operand
pub operand_a_join : (code n : ℕ) (p q : Inputs) (s w : Registers) → IsDigits p s → IsWhole n q w
    → operand_a (4 ^ suc n - 1) code (join_inputs p q) (join s w) ≡ operand_a (4 ^ n - 1) code q w * 4 + operand_a 3 code p s
unfolding operand_a
operand_a_join code n p q s w d h =
    rw (top_digits n, source_word_join code n p q s w d h, masked_word_join code n p q s w d)
    (by_cases (function_of code == 1) (group_of code == 3) (function_of code == 2) (source_word code q.m w) (source_word code p.m s)
    (masked_word code q.k q.i w) (masked_word code p.k p.i s)
    (source_word_below 4 code p.m s (omega arith) d.m d.registers)
    (let lt : source_word code q.m w < 4 ^ n = source_word_below (4 ^ n) code q.m w (pow4_pos n) h.m h.registers in omega arith))
  where
    by_cases : (f1 g3 f2 : Bool) (x y u v : ℕ) → y < 4 → x ≤ 4 ^ n - 1
        → (if f1 then if g3 then bit_or ((4 ^ n - 1) * 4 + 3 - (x * 4 + y)) (q.k * 4 + p.k)
        else x * 4 + y else if f2 then u * 4 + v else x * 4 + y)
        ≡ (if f1 then if g3 then bit_or (4 ^ n - 1 - x) q.k else x else if f2 then u else x) * 4
        + (if f1 then if g3 then bit_or (3 - y) p.k else y else if f2 then v else y)
    by_cases true true f2 x y u v ys xs =
        let digit : 3 - y < 4 = omega arith in
        rw (not_digits (4 ^ n - 1) x y xs ys) (or_digits (4 ^ n - 1 - x) q.k (3 - y) p.k digit d.k)
    by_cases true false f2 x y u v ys xs = refl
    by_cases false g3 true x y u v ys xs = refl
    by_cases false g3 false x y u v ys xs = refl

-- the second operand
pub operand_b_join : (code n : ℕ) (p q : Inputs) (s w : Registers) → IsDigits p s → IsWhole n q w
    → operand_b (4 ^ suc n - 1) code (join_inputs p q) (join s w) ≡ operand_b (4 ^ n - 1) code q w * 4 + operand_b 3 code p s
unfolding operand_b
operand_b_join code n p q s w d h =
    rw (top_digits n, source_word_join code n p q s w d h, masked_word_join code n p q s w d)
    (by_cases (function_of code == 1) (group_of code == 3) (function_of code == 2) (source_word code q.m w) (source_word code p.m s)
    (masked_word code q.k q.i w) (masked_word code p.k p.i s)
    (source_word_below 4 code p.m s (omega arith) d.m d.registers))
  where
    by_cases : (f1 g3 f2 : Bool) (x y u v : ℕ) → y < 4
        → (if f1 then if g3 then bit_and (x * 4 + y) (q.k * 4 + p.k) else q.k * 4 + p.k else if f2 then (4 ^ n - 1)
        * 4 + 3 else u * 4 + v)
        ≡ (if f1 then if g3 then bit_and x q.k else q.k else if f2 then 4 ^ n - 1 else u) * 4
        + (if f1 then if g3 then bit_and y p.k else p.k else if f2 then 3 else v)
    by_cases true true f2 x y u v ys = and_digits x q.k y p.k ys d.k
    by_cases true false f2 x y u v ys = refl
    by_cases false g3 true x y u v ys = refl
    by_cases false g3 false x y u v ys = refl

-- the result of functions 4 to 7
pub logic_word_join : (code n : ℕ) (p q : Inputs) (s w : Registers) → IsDigits p s → IsWhole n q w
    → logic_word (4 ^ suc n - 1) code (join_inputs p q) (join s w) ≡ logic_word (4 ^ n - 1) code q w * 4 + logic_word 3 code p s
unfolding logic_word
logic_word_join code n p q s w d h =
    rw (top_digits n, source_word_join code n p q s w d h, masked_word_join code n p q s w d)
    (by_cases (function_of code == 4) (function_of code == 5) (function_of code == 6) (source_word code q.m w) (source_word code p.m s)
    (masked_word code q.k q.i w) (masked_word code p.k p.i s)
    (source_word_below 4 code p.m s (omega arith) d.m d.registers) (masked_word_below 4 code p.k p.i s (omega arith) d.k)
    (source_word_below (4 ^ n) code q.m w (pow4_pos n) h.m h.registers) (masked_word_below (4 ^ n) code q.k q.i w (pow4_pos n) h.k))
  where
    by_cases : (f4 f5 f6 : Bool) (x y u v : ℕ) → y < 4 → v < 4 → x < 4 ^ n → u < 4 ^ n
        → (if f4 then bit_and (x * 4 + y) (u * 4 + v) else if f5 then bit_and (q.k * 4 + p.k) (x * 4 + y) else if f6 then bit_or
        (x * 4 + y) (u * 4 + v)
        else ((4 ^ n - 1) * 4 + 3) - bit_xor (x * 4 + y) (u * 4 + v))
        ≡ (if f4 then bit_and x u else if f5 then bit_and q.k x else if f6 then bit_or x u else (4 ^ n - 1) - bit_xor x u) * 4
        + (if f4 then bit_and y v else if f5 then bit_and p.k y else if f6 then bit_or y v else 3 - bit_xor y v)
    by_cases true f5 f6 x y u v ys vs xs us = and_digits x u y v ys vs
    by_cases false true f6 x y u v ys vs xs us = and_digits q.k x p.k y d.k ys
    by_cases false false true x y u v ys vs xs us = or_digits x u y v ys vs
    by_cases false false false x y u v ys vs xs us =
        let top : bit_xor x u ≤ 4 ^ n - 1 = omega (arith, xor_below n x u xs us) in
        rw (xor_digits x u y v ys vs) (not_digits (4 ^ n - 1) (bit_xor x u) (bit_xor y v) top (xor_lt 2 y v ys vs))

-- the test word
pub test_word_join : (code n : ℕ) (p q : Inputs) (s w : Registers) → IsDigits p s → IsWhole n q w
    → test_word code (join_inputs p q) (join s w) ≡ test_word code q w * 4 + test_word code p s
unfolding test_word
test_word_join code n p q s w d h =
    rw (source_word_join code n p q s w d h, masked_word_join code n p q s w d)
    (by_cases (function_of code == 5) (function_of code == 6) (source_word code q.m w) (source_word code p.m s)
    (masked_word code q.k q.i w) (masked_word code p.k p.i s)
    (source_word_below 4 code p.m s (omega arith) d.m d.registers) (masked_word_below 4 code p.k p.i s (omega arith) d.k))
  where
    by_cases : (f5 f6 : Bool) (x y u v : ℕ) → y < 4 → v < 4
        → (if f5 then bit_and (q.k * 4 + p.k) (x * 4 + y) else if f6 then u * 4 + v else bit_and (x * 4 + y) (u * 4 + v))
        ≡ (if f5 then bit_and q.k x else if f6 then u else bit_and x u)
        * 4 + (if f5 then bit_and p.k y else if f6 then v else bit_and y v)
    by_cases true f6 x y u v ys vs = and_digits q.k x p.k y d.k ys
    by_cases false true x y u v ys vs = refl
    by_cases false false x y u v ys vs = and_digits x u y v ys vs

-- the new MAR
pub mar_after_join : (code n : ℕ) (p q : Inputs) (s w : Registers) → IsDigits p s → IsWhole n q w
    → mar_after code (join_inputs p q) (join s w) ≡ mar_after code q w * 4 + mar_after code p s
unfolding mar_after
mar_after_join code n p q s w d h =
    rw (source_word_join code n p q s w d h)
    (by_cases (function_of code == 1 && not (group_of code == 3)) (source_word code q.m w) (source_word code p.m s)
    (source_word_below 4 code p.m s (omega arith) d.m d.registers))
  where
    by_cases : (f1 : Bool) (x y : ℕ) → y < 4
        → (if f1 then bit_or (q.k * 4 + p.k) (x * 4 + y) else w.mar * 4 + s.mar) ≡ (if f1 then bit_or q.k x else w.mar)
        * 4 + (if f1 then bit_or p.k y else s.mar)
    by_cases true x y ys = or_digits q.k x p.k y d.k ys
    by_cases false x y ys = refl

-- the registers that take a result
pub registers_after_join : (code d v : ℕ) (s w : Registers) → length s.r ≡ length w.r
    → registers_after code (v * 4 + d) (join s w) ≡ join (registers_after code d s) (registers_after code v w)
unfolding registers_after
registers_after_join code d v s w e =
    elim (function_of code == 0 && group_of code == 1)
    as (λ g. (if g then record (set (join s w) (register_of code) (v * 4 + d)) { ac = v * 4 + d } else set (join s w) (register_of code)
    (v * 4 + d))
    ≡ join (if g then record (set s (register_of code) d) { ac = d } else set s (register_of code) d)
    (if g then record (set w (register_of code) v) { ac = v } else set w (register_of code) v)) [
      | true ↦ ap (λ (o : Registers). record o { ac = v * 4 + d }) (set_join s w (register_of code) d v e)
      | false ↦ set_join s w
          (register_of code) d v e
    ]

-- the first operand of a slice is one digit
pub operand_a_below : (code : ℕ) (p : Inputs) (s : Registers) → IsDigits p s → operand_a 3 code p s < 4
unfolding operand_a
operand_a_below code p s d =
    by_cases (function_of code == 1) (group_of code == 3) (function_of code == 2) (source_word code p.m s) (masked_word code p.k p.i s)
    (source_word_below 4 code p.m s (omega arith) d.m d.registers) (masked_word_below 4 code p.k p.i s (omega arith) d.k)
  where
    by_cases : (f1 g3 f2 : Bool) (y v : ℕ) → y < 4 → v < 4
        → (if f1 then if g3 then bit_or (3 - y) p.k else y else if f2 then v else y) < 4
    by_cases true true f2 y v ys vs = or_lt 2 (3 - y) p.k (let k : 3 - y < 4 = omega arith in k) d.k
    by_cases true false f2 y v ys vs = ys
    by_cases false g3 true y v ys vs = vs
    by_cases false g3 false y v ys vs = ys

-- the second operand of a slice is one digit
pub operand_b_below : (code : ℕ) (p : Inputs) (s : Registers) → IsDigits p s → operand_b 3 code p s < 4
unfolding operand_b
operand_b_below code p s d =
    by_cases (function_of code == 1) (group_of code == 3) (function_of code == 2) (source_word code p.m s) (masked_word code p.k p.i s)
    (source_word_below 4 code p.m s (omega arith) d.m d.registers) (masked_word_below 4 code p.k p.i s (omega arith) d.k)
  where
    by_cases : (f1 g3 f2 : Bool) (y v : ℕ) → y < 4 → v < 4 → (if f1 then if g3 then bit_and y p.k else p.k else if f2 then 3 else v) < 4
    by_cases true true f2 y v ys vs = lt_of_le_of_lt (and_le_l y p.k) ys
    by_cases true false f2 y v ys vs = d.k
    by_cases false g3 true y v ys vs = omega arith
    by_cases false g3 false y v ys vs = vs

-- the test word of a slice is one digit
pub test_word_below : (code : ℕ) (p : Inputs) (s : Registers) → IsDigits p s → test_word code p s < 4
unfolding test_word
test_word_below code p s d =
    by_cases (function_of code == 5) (function_of code == 6) (source_word code p.m s) (masked_word code p.k p.i s)
    (source_word_below 4 code p.m s (omega arith) d.m d.registers) (masked_word_below 4 code p.k p.i s (omega arith) d.k)
  where
    by_cases : (f5 f6 : Bool) (y v : ℕ) → y < 4 → v < 4 → (if f5 then bit_and p.k y else if f6 then v else bit_and y v) < 4
    by_cases true f6 y v ys vs = lt_of_le_of_lt (and_le_l p.k y) d.k
    by_cases false true y v ys vs = vs
    by_cases false false y v ys vs = lt_of_le_of_lt (and_le_l y v) ys
