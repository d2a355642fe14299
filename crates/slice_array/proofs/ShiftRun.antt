-- In the right shift, a step slice by slice by recursion is the array step: the low bit of the slices above goes into
-- the slice below.
use Rattle.std.proofs.Common.{ℕ, zero, suc, ◌+◌, ◌*◌, ◌/◌, ◌%◌, ◌^◌, ◌<◌, ◌≡◌, sym, ap, ◌∙◌, arith, true, refl, subst, List, [], ◌∷◌, length}
use Rattle.std.proofs.Math.Nat.{pow-suc, div-div-eq-div-mul}
use Rattle.cpe_slice.specs.Registers.{Registers, AllBelow}
use Rattle.cpe_slice.specs.WordStep.{Inputs, source_word, mar_after, result_word, link, bits_below, array_step}
use Rattle.slice_array.specs.Whole.{join, whole, AllSlices}
use Rattle.cpe_slice.specs.FunctionCode.{is_shift}
use Rattle.cpe_slice.proofs.Cases.{result_shift, link_shift}
use Rattle.slice_array.proofs.BaseFour.{div4_lt}
use Rattle.slice_array.proofs.WholeWords.{whole_below, join_zero}
use Rattle.slice_array.proofs.JoinedOperands.{join_inputs, IsDigits, IsWhole, ten_each, source_word_join, source_word_below, mar_after_join, registers_after_join}
use Rattle.slice_array.proofs.LinkBits.{bits_below_first, bits_below_same, one_bit}
use Rattle.slice_array.proofs.RippleRun.{Run, rest_inputs, BusesFit, RunIs, join_halves, links_is, array_step_ten, digits_only}

-- in the shift FI is the lowest link
pub fi_shift : (n code : ℕ) (b : Inputs) (w : Registers) → is_shift code ≡ true → (array_step n code b w).fi ≡ link n code b w 0
unfolding array_step
fi_shift n code b w e = rw e

-- a number one place down, digit by digit
halved : (k x y l li : ℕ) → l ≡ x / 1 % 2
    → (x * 4 + y) / 2 + li * (4 ^ suc (suc k) / 2) ≡ (x / 2 + li * (4 ^ suc k / 2)) * 4 + (y / 2 + l * (4 ^ 1 / 2))
halved k x y l li e =
    let two : 4 ^ suc (suc k) / 2 ≡ 4 ^ k * 8 = omega (arith, pow-suc 4 (suc k), pow-suc 4 k) in
    let one : 4 ^ suc k / 2 ≡ 4 ^ k * 2 = omega (arith, pow-suc 4 k) in
    rw (two, one, e) (scaled li (4 ^ k))
  where
    scaled : (li p : ℕ) → (x * 4 + y) / 2 + li * (p * 8) ≡ (x / 2 + li * (p * 2)) * 4 + (y / 2 + x / 1 % 2 * 2)
    scaled li p = omega arith

-- the result
pub result_join_shift : (code n : ℕ) (p q : Inputs) (s w : Registers) → 0 < n → IsDigits p s → IsWhole n q w → is_shift code ≡ true
    → p.li ≡ link n code q w 0
    → result_word (suc n) code (join_inputs p q) (join s w) ≡ result_word n code q w * 4 + result_word 1 code p s
result_join_shift code zero p q s w pos d h e c = absurd (omega arith)
result_join_shift code (suc k) p q s w pos d h e c =
    rw (
      result_shift (suc (suc k)) code (join_inputs p q) (join s w) e,
      result_shift (suc k) code q w e,
      result_shift 1 code p s e,
      source_word_join code (suc k) p q s w d h,
    )
    (halved k (source_word code q.m w) (source_word code p.m s) p.li q.li (c ∙ link_shift (suc k) code q w 0 e))

-- a digit above the lowest
above_digit : (x y j : ℕ) → y < 4 → (x * 4 + y) / 4 ^ suc j % 2 ≡ x / 4 ^ j % 2
above_digit x y j h =
    let e : 4 ^ suc j ≡ 4 * 4 ^ j = omega (arith, pow-suc 4 j) in
    let low : (x * 4 + y) / 4 ≡ x = omega arith in
    rw (e, ← div-div-eq-div-mul (x * 4 + y) 4 (4 ^ j), low)

-- the links above the lowest
pub link_join_shift : (code n j : ℕ) (p q : Inputs) (s w : Registers) → IsDigits p s → IsWhole n q w → is_shift code ≡ true
    → link (suc n) code (join_inputs p q) (join s w) (suc j) ≡ link n code q w j
link_join_shift code n j p q s w d h e =
    rw (link_shift (suc n) code (join_inputs p q) (join s w) (suc j) e, link_shift n code q w j e, source_word_join code n p q s w d h)
    (above_digit (source_word code q.m w) (source_word code p.m s) j (source_word_below 4 code p.m s (omega arith) d.m d.registers))

-- the lowest link is that of the slice
pub link_zero_shift : (code n : ℕ) (p q : Inputs) (s w : Registers) → IsDigits p s → IsWhole n q w → is_shift code ≡ true
    → link (suc n) code (join_inputs p q) (join s w) 0 ≡ link 1 code p s 0
link_zero_shift code n p q s w d h e =
    rw (link_shift (suc n) code (join_inputs p q) (join s w) 0 e, link_shift 1 code p s 0 e, source_word_join code n p q s w d h)
    (let k : (source_word code q.m w * 4 + source_word code p.m s) / 1 % 2 ≡ source_word code p.m s / 1 % 2 = omega arith in k)

-- all registers
pub registers_join_shift : (code n : ℕ) (p q : Inputs) (s w : Registers) → 0 < n → IsDigits p s → IsWhole n q w → is_shift code ≡ true
    → p.li ≡ link n code q w 0
    → (array_step (suc n) code (join_inputs p q) (join s w)).registers ≡ join (array_step 1 code p s).registers
    (array_step n code q w).registers
unfolding array_step
registers_join_shift code n p q s w pos d h e c =
    rw (result_join_shift code n p q s w pos d h e c, mar_after_join code n p q s w d h)
    (ap (λ (o : Registers). record o { mar = mar_after code q w * 4 + mar_after code p s })
    (registers_after_join code (result_word 1 code p s) (result_word n code q w) s w (ten_each p s n q w d h)))

-- all links as one number
pub links_join_shift : (code n : ℕ) (p q : Inputs) (s w : Registers) → IsDigits p s → IsWhole n q w → is_shift code ≡ true
    → bits_below (suc n) (link (suc n) code (join_inputs p q) (join s w)) ≡ link 1 code p s 0 + 2 * bits_below n (link n code q w)
links_join_shift code n p q s w d h e =
    rw (
      bits_below_first n (link (suc n) code (join_inputs p q) (join s w)),
      link_zero_shift code n p q s w d h e,
      bits_below_same n (λ j. link (suc n) code (join_inputs p q) (join s w) (suc j)) (link n code q w)
          (λ j. link_join_shift code n j p q s w d h e),
    )

-- the inputs of the lowest slice: LI is the low bit of the slices above
abbrev pub shift_inputs : Inputs → ℕ → Inputs
shift_inputs b li = record { k = b.k % 4; m = b.m % 4; i = b.i % 4; ci = b.ci; li = li }

-- the slices above, then the lowest with their low bit
unfoldable pub run_shift : ℕ → Inputs → List Registers → Run
run_shift code b [] = record { slices = []; links = 0; carry = b.li }
run_shift code b (s ∷ ss) =
    let above = run_shift code (rest_inputs b b.ci) ss in
    let here = array_step 1 code (shift_inputs b above.carry) s in
    record { slices = here.registers ∷ above.slices; links = here.fi + 2 * above.links; carry = here.fi }

-- the inputs are those of the lowest slice below the rest
join_halves_shift : (b : Inputs) (c : ℕ) → join_inputs (shift_inputs b c) (rest_inputs b b.ci) ≡ b
join_halves_shift b c = join_halves b b.ci

-- one slice more
pub shift_step : (code n : ℕ) (p q : Inputs) (s w : Registers) (above : Run) → 0 < n → IsDigits p s → IsWhole n q w → is_shift code ≡ true
    → p.li ≡ above.carry → RunIs n code q w above
    → RunIs (suc n) code (join_inputs p q) (join s w)
    (record {
      slices = (array_step 1 code p s).registers ∷ above.slices;
      links = (array_step 1 code p s).fi + 2 * above.links;
      carry = (array_step 1 code p s).fi;
    })
shift_step code n p q s w above pos d h e c r =
    let first : p.li ≡ link n code q w 0 = c ∙ r.carry ∙ fi_shift n code q w e in
    record {
      registers = ap (join (array_step 1 code p s).registers) r.registers ∙ sym (registers_join_shift code n p q s w pos d h e first);
      links = ap (λ (x : ℕ). (array_step 1 code p s).fi + 2 * x) (r.links ∙ links_is n code q w)
          ∙ ap (λ (x : ℕ). x + 2 * bits_below n (link n code q w)) (fi_shift 1 code p s e)
          ∙ sym (links_join_shift code n p q s w d h e) ∙ sym (links_is (suc n) code (join_inputs p q) (join s w));
      carry = fi_shift 1 code p s e ∙ sym (link_zero_shift code n p q s w d h e)
          ∙ sym (fi_shift (suc n) code (join_inputs p q) (join s w) e);
    }

-- a run of one slice
pub shift_one : (code : ℕ) (b : Inputs) (s : Registers) → AllBelow 4 s → BusesFit 1 b → is_shift code ≡ true
    → RunIs 1 code b (whole (s ∷ [])) (run_shift code b (s ∷ []))
unfolding run_shift
shift_one code b s a h e =
    rw (join_zero s a.ten, digits_only b h) record {
      registers = join_zero (array_step 1 code b s).registers (array_step_ten 1 code b s ∙ a.ten);
      links = ap (λ (x : ℕ). x + 0) (fi_shift 1 code b s e) ∙ (one_bit (link 1 code b s)) ∙ sym (links_is 1 code b s);
      carry = refl;
    }

-- a run of any number of slices is the array step
pub shift_is : (ss : List Registers) (code : ℕ) (b : Inputs) → 0 < length ss → AllSlices ss → BusesFit (length ss) b
    → is_shift code ≡ true
    → RunIs (length ss) code b (whole ss) (run_shift code b ss)
unfolding run_shift
shift_is [] code b pos a h e = absurd (omega arith)
shift_is (s ∷ []) code b pos a h e = shift_one code b s a.0 h e
shift_is (s ∷ t ∷ ts) code b pos a h e =
    let q = rest_inputs b b.ci in
    let p = shift_inputs b (run_shift code q (t ∷ ts)).carry in
    let fit : BusesFit (length (t ∷ ts)) q =
    record { k = div4_lt (length (t ∷ ts)) b.k h.k; m = div4_lt (length (t ∷ ts)) b.m h.m; i = div4_lt (length (t ∷ ts)) b.i h.i } in
    let digits : IsDigits p s = record { k = omega arith; m = omega arith; i = omega arith; registers = a.0 } in
    let wholes : IsWhole (length (t ∷ ts)) q (whole (t ∷ ts)) =
    record { k = fit.k; m = fit.m; i = fit.i; registers = whole_below (t ∷ ts) a.1 } in
    subst (λ (b' : Inputs). RunIs (length (s ∷ t ∷ ts)) code b' (whole (s ∷ t ∷ ts)) (run_shift code b (s ∷ t ∷ ts)))
    (join_halves_shift b (run_shift code q (t ∷ ts)).carry)
    (shift_step code (length (t ∷ ts)) p q s (whole (t ∷ ts)) (run_shift code q (t ∷ ts)) (omega arith) digits wholes e refl
    (shift_is (t ∷ ts) code q (omega arith) a.1 fit e))
