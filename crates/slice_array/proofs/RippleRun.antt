-- Outside the shift, a step slice by slice by recursion is the array step.
use Rattle.std.proofs.Common.{ℕ, suc, ◌+◌, ◌-◌, ◌*◌, ◌/◌, ◌%◌, ◌^◌, ◌<◌, ◌≡◌, sym, ap, ◌∙◌, arith, ◌==◌, true, false, if◌then◌else◌, refl, subst, List, [], ◌∷◌, length, ◌&&◌, length-set}
use Rattle.cpe_slice.specs.declared.register.Reg.{Reg}
use Rattle.cpe_slice.specs.declared.register.Reg.TheVariants.{R, T, Ac}
use Rattle.cpe_slice.specs.Registers.{Registers, AllBelow, set}
use Rattle.cpe_slice.specs.FunctionCode.{function_of, group_of, register_of, is_shift}
use Rattle.cpe_slice.specs.WordStep.{Inputs, registers_after, result_word, link, bits_below, array_step}
use Rattle.slice_array.specs.Whole.{join, whole, AllSlices}
use Rattle.slice_array.proofs.BaseFour.{div4_lt}
use Rattle.slice_array.proofs.WholeWords.{whole_below, join_zero}
use Rattle.slice_array.proofs.JoinedOperands.{join_inputs, IsDigits, IsWhole}
use Rattle.slice_array.proofs.LinkBits.{one_bit}
use Rattle.slice_array.proofs.JoinedStep.{link_join, links_join, registers_join}

-- the slices after a step, the links, and what the last one handed on
pub record Run : Type 0 where
  pub slices : List Registers
  pub links : ℕ
  pub carry : ℕ

-- the inputs of the lowest slice: the lowest digit of each bus
abbrev pub digit_inputs : Inputs → Inputs
digit_inputs b = record { k = b.k % 4; m = b.m % 4; i = b.i % 4; ci = b.ci; li = b.li }

-- the inputs of the slices above: the rest of each bus, and the carry
abbrev pub rest_inputs : Inputs → ℕ → Inputs
rest_inputs b c = record { k = b.k / 4; m = b.m / 4; i = b.i / 4; ci = c; li = b.li }

-- the lowest slice, then those above it with its carry
unfoldable pub run : ℕ → Inputs → List Registers → Run
run code b [] = record { slices = []; links = 0; carry = b.ci }
run code b (s ∷ ss) =
    let here = array_step 1 code (digit_inputs b) s in
    let above = run code (rest_inputs b here.fi) ss in
    record { slices = here.registers ∷ above.slices; links = here.fi + 2 * above.links; carry = above.carry }

-- buses of n slices
pub record BusesFit (n : ℕ) (b : Inputs) : Type 0 where
  pub k : b.k < 4 ^ n
  pub m : b.m < 4 ^ n
  pub i : b.i < 4 ^ n

-- a run gives what the array step gives
pub record RunIs (n code : ℕ) (b : Inputs) (w : Registers) (r : Run) : Type 0 where
  pub registers : whole r.slices ≡ (array_step n code b w).registers
  pub links : r.links ≡ (array_step n code b w).links
  pub carry : r.carry ≡ (array_step n code b w).fi

-- a number is its lowest digit below the rest
halves : (x : ℕ) → x / 4 * 4 + x % 4 ≡ x
halves x = omega arith

-- the inputs are those of the lowest slice below the rest
pub join_halves : (b : Inputs) (c : ℕ) → join_inputs (digit_inputs b) (rest_inputs b c) ≡ b
join_halves b c = rw (halves b.k, halves b.m, halves b.i)

-- outside the shift FI is the last link
pub fi_is : (n code : ℕ) (b : Inputs) (w : Registers) → is_shift code ≡ false → (array_step n code b w).fi ≡ link n code b w (n - 1)
unfolding array_step
fi_is n code b w e = rw e

-- the links of the array step
pub links_is : (n code : ℕ) (b : Inputs) (w : Registers) → (array_step n code b w).links ≡ bits_below n (link n code b w)
unfolding array_step
links_is n code b w = refl

-- one slice more
pub run_step : (code n : ℕ) (p q : Inputs) (s w : Registers) (above : Run) → 0 < n → IsDigits p s → IsWhole n q w → is_shift code ≡ false
    → q.ci ≡ (array_step 1 code p s).fi → RunIs n code q w above
    → RunIs (suc n) code (join_inputs p q) (join s w)
    (record {
      slices = (array_step 1 code p s).registers ∷ above.slices;
      links = (array_step 1 code p s).fi + 2 * above.links;
      carry = above.carry;
    })
run_step code n p q s w above pos d h e c r =
    let first : q.ci ≡ link 1 code p s 0 = c ∙ fi_is 1 code p s e in
    record {
      registers = ap (join (array_step 1 code p s).registers) r.registers ∙ sym (registers_join code n p q s w d h e first);
      links = ap (λ (x : ℕ). (array_step 1 code p s).fi + 2 * x) (r.links ∙ links_is n code q w)
          ∙ ap (λ (x : ℕ). x + 2 * bits_below n (link n code q w)) (fi_is 1 code p s e)
          ∙ sym (links_join code n p q s w d h e first) ∙ sym (links_is (suc n) code (join_inputs p q) (join s w));
      carry = r.carry ∙ fi_is n code q w e ∙ sym (link_join code n (n - 1) p q s w d h e first)
          ∙ ap (link (suc n) code (join_inputs p q) (join s w)) (let k : suc (n - 1) ≡ suc n - 1 = omega arith in k)
          ∙ sym (fi_is (suc n) code (join_inputs p q) (join s w) e);
    }

-- a register that is set leaves the number of registers R
set_ten : (w : Registers) (reg : Reg) (v : ℕ) → length (set w reg v).r ≡ length w.r
set_ten w (R n) v = length-set w.r n v
set_ten w T v = refl
set_ten w Ac v = refl

-- so does a step
pub array_step_ten : (n code : ℕ) (b : Inputs) (w : Registers) → length (array_step n code b w).registers.r ≡ length w.r
unfolding array_step registers_after
array_step_ten n code b w =
    elim (function_of code == 0 && group_of code == 1)
    as (λ g. length (if g then record (set w (register_of code) (result_word n code b w)) { ac = result_word n code b w } else set w
    (register_of code) (result_word n code b w)).r ≡ length w.r)
    [ true ↦ set_ten w (register_of code) (result_word n code b w) | false ↦ set_ten w (register_of code) (result_word n code b w) ]

-- buses of one slice are their lowest digits
pub digits_only : (b : Inputs) → BusesFit 1 b → digit_inputs b ≡ b
digits_only b h =
    let k : b.k % 4 ≡ b.k = omega (arith, h.k) in let m : b.m % 4 ≡ b.m = omega (arith, h.m) in
    let i : b.i % 4 ≡ b.i = omega (arith, h.i) in rw (k, m, i)

-- a run of one slice
pub run_one : (code : ℕ) (b : Inputs) (s : Registers) → AllBelow 4 s → BusesFit 1 b → is_shift code ≡ false
    → RunIs 1 code b (whole (s ∷ [])) (run code b (s ∷ []))
unfolding run
run_one code b s a h e =
    rw (join_zero s a.ten, digits_only b h) record {
      registers = join_zero (array_step 1 code b s).registers (array_step_ten 1 code b s ∙ a.ten);
      links = ap (λ (x : ℕ). x + 0) (fi_is 1 code b s e) ∙ (one_bit (link 1 code b s)) ∙ sym (links_is 1 code b s);
      carry = refl;
    }

-- a run of any number of slices is the array step
pub run_is : (ss : List Registers) (code : ℕ) (b : Inputs) → 0 < length ss → AllSlices ss → BusesFit (length ss) b → is_shift code ≡ false
    → RunIs (length ss) code b (whole ss) (run code b ss)
unfolding run
run_is [] code b pos a h e = absurd (omega arith)
run_is (s ∷ []) code b pos a h e = run_one code b s a.0 h e
run_is (s ∷ t ∷ ts) code b pos a h e =
    let p = digit_inputs b in
    let q = rest_inputs b (array_step 1 code (digit_inputs b) s).fi in
    let fit : BusesFit (length (t ∷ ts)) q =
    record { k = div4_lt (length (t ∷ ts)) b.k h.k; m = div4_lt (length (t ∷ ts)) b.m h.m; i = div4_lt (length (t ∷ ts)) b.i h.i } in
    let digits : IsDigits p s = record { k = omega arith; m = omega arith; i = omega arith; registers = a.0 } in
    let wholes : IsWhole (length (t ∷ ts)) q (whole (t ∷ ts)) =
    record { k = fit.k; m = fit.m; i = fit.i; registers = whole_below (t ∷ ts) a.1 } in
    subst (λ (b' : Inputs). RunIs (length (s ∷ t ∷ ts)) code b' (whole (s ∷ t ∷ ts)) (run code b (s ∷ t ∷ ts)))
    (join_halves b (array_step 1 code (digit_inputs b) s).fi)
    (run_step code (length (t ∷ ts)) p q s (whole (t ∷ ts)) (run code q (t ∷ ts)) (omega arith) digits wholes e refl
    (run_is (t ∷ ts) code q (omega arith) a.1 fit e))
