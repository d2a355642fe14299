-- In the right shift, the loop from the last slice down is the recursion: what stands when j slices are left is the
-- run of those above.
use Rattle.std.proofs.Common.{ℕ, ◌+◌, ◌*◌, ◌/◌, ◌%◌, ◌^◌, ◌<◌, ◌≤◌, ◌≡◌, sym, ap, ◌∙◌, arith, Bool, true, refl, List, [], ◌∷◌, length, get_or, take, drop, add-one, drop-cons, set}
use Rattle.cpe_slice.specs.Registers.{Registers, AllBelow}
use Rattle.cpe_slice.specs.WordStep.{Inputs, array_step, bit}
use Rattle.cpe_slice.specs.FunctionCode.{is_shift}
use Rattle.slice_array.specs.Whole.{whole, AllSlices}
use Rattle.std.proofs.lemmas.List.{drop_all, take-set, take-take, get_or-take}
use mir.Val.{bool_byte}
use Rattle.std.proofs.lemmas.Grind.{drop-set_at}
use Rattle.std.proofs.Math.Nat.{pow-le-pow_right, div-one}
use Rattle.slice_array.proofs.BaseFour.{further}
use Rattle.slice_array.proofs.WholeWords.{all_set}
use Rattle.slice_array.proofs.LinkBits.{fewer_links, fewer_small}
use Rattle.slice_array.proofs.RippleRun.{Run, rest_inputs, BusesFit, RunIs}
use Rattle.slice_array.proofs.ShiftRun.{shift_inputs, run_shift, shift_is}

-- what the slices from j on take in
abbrev pub inputs_above : ℕ → Inputs → Inputs
inputs_above j b = record { k = b.k / 4 ^ j; m = b.m / 4 ^ j; i = b.i / 4 ^ j; ci = b.ci; li = b.li }

-- what stands when j slices are left
pub record IsDownward (code : ℕ) (b : Inputs) (before now : List Registers) (j links : ℕ) (carry : Bool) : Type 0 where
  pub left : take j now ≡ take j before
  pub digits : AllSlices now
  pub slices : (run_shift code (inputs_above j b) (drop j before)).slices ≡ drop j now
  pub links_so_far : 2 ^ j * (run_shift code (inputs_above j b) (drop j before)).links ≡ links
  pub last : (run_shift code (inputs_above j b) (drop j before)).carry ≡ bit carry
  pub small : links + 2 ^ j ≤ 2 ^ 16

-- a run of no slice hands LI on
shift_nil : (code : ℕ) (b : Inputs) → run_shift code b [] ≡ (record { slices = []; links = 0; carry = b.li })
unfolding run_shift
shift_nil code b = refl

-- a run of a slice and those above it
shift_cons : (code : ℕ) (b : Inputs) (s : Registers) (ss : List Registers)
    → run_shift code b (s ∷ ss) ≡ (record {
      slices = (array_step 1 code (shift_inputs b (run_shift code (rest_inputs b b.ci) ss).carry) s).registers
          ∷ (run_shift code (rest_inputs b b.ci) ss).slices;
      links = (array_step 1 code (shift_inputs b (run_shift code (rest_inputs b b.ci) ss).carry) s).fi + 2
          * (run_shift code (rest_inputs b b.ci) ss).links;
      carry = (array_step 1 code (shift_inputs b (run_shift code (rest_inputs b b.ci) ss).carry) s).fi;
    })
unfolding run_shift
shift_cons code b s ss = refl

-- the inputs one slice further up
above_next : (j : ℕ) (b : Inputs) → rest_inputs (inputs_above j b) b.ci ≡ inputs_above (j + 1) b
above_next j b = rw (further b.k j, further b.m j, further b.i j)

-- before the first round all slices are left
pub shift_start : (code : ℕ) (b : Inputs) (xs : List Registers) (carry : Bool) → b.li ≡ bit carry → length xs ≤ 16 → AllSlices xs
    → IsDownward code b xs xs (length xs) 0 carry
shift_start code b xs carry e h a = record {
  left = refl;
  digits = a;
  slices = rw (drop_all (length xs) xs (omega arith), shift_nil code (inputs_above (length xs) b));
  links_so_far = rw (drop_all (length xs) xs (omega arith), shift_nil code (inputs_above (length xs) b)) (omega arith);
  last = rw (drop_all (length xs) xs (omega arith), shift_nil code (inputs_above (length xs) b)) e;
  small = two_to (length xs) h;
}
  where
    two_to : (n : ℕ) → n ≤ 16 → 0 + 2 ^ n ≤ 2 ^ 16
    two_to n h = omega (arith, pow-le-pow_right {n = 2} (omega arith) {i = n} {j = 16} h)

-- slice i is as it was while it is left
read_left : (xs ys : List Registers) (i : ℕ) (d : Registers) → take (i + 1) xs ≡ take (i + 1) ys → get_or xs i d ≡ get_or ys i d
read_left xs ys i d e = sym (get_or-take (i + 1) xs i d (omega arith)) ∙ ap (λ (l : List Registers). get_or l i d) e
    ∙ get_or-take (i + 1) ys i d (omega arith)

-- the slices below i are as they were where those up to i are
less_left : (xs ys : List Registers) (i : ℕ) → take (i + 1) xs ≡ take (i + 1) ys → take i xs ≡ take i ys
less_left xs ys i e = sym (take-take i (i + 1) xs (omega arith)) ∙ ap (λ (l : List Registers). take i l) e
    ∙ take-take i (i + 1) ys (omega arith)

-- one slice further down
pub shift_next : (code : ℕ) (b : Inputs) (before now : List Registers) (i links y : ℕ) (carry ro : Bool) (d s s' : Registers) (p : Inputs)
    → IsDownward code b before now (i + 1) links carry → i < length now → i < length before → i < 16 → s ≡ get_or now i d → AllBelow 4 s'
    → y ≡ bool_byte ro
    → p ≡ shift_inputs (inputs_above i b) (bit carry) → s' ≡ (array_step 1 code p s).registers → bit ro ≡ (array_step 1 code p s).fi
    → IsDownward code b before (set now i s') i (links + y * 2 ^ i % 4294967296) ro
shift_next code b before now i links y carry ro d s s' p t lt lb small is below ye pe we ce =
    let cons : drop i before ≡ s ∷ drop (i + 1) before =
    rw (add-one) (drop-cons before i d lb)
    ∙ ap (λ (x : Registers). x ∷ drop (i + 1) before) (sym (read_left now before i d t.left) ∙ sym is) in
    let cons_run : run_shift code (inputs_above i b) (drop i before) ≡ (record {
      slices = s' ∷ drop (i + 1) now;
      links = bit ro + 2 * (run_shift code (inputs_above (i + 1) b) (drop (i + 1) before)).links;
      carry = bit ro;
    }) = rw (cons, shift_cons, above_next i b, t.last, ← pe, ← ce, ← we, t.slices) in
    record {
      left = take-set now i s' ∙ less_left now before i t.left;
      digits = all_set now i s' t.digits below;
      slices = ap (λ (r : Run). r.slices) cons_run ∙ sym (drop-set_at now i i s' refl lt);
      links_so_far = ap (λ (r : Run). 2 ^ i * r.links) cons_run
          ∙ fewer_links i y ro (run_shift code (inputs_above (i + 1) b) (drop (i + 1) before)).links links ye small t.links_so_far;
      last = ap (λ (r : Run). r.carry) cons_run;
      small = fewer_small i y ro links ye small t.small;
    }

-- when no slice is left, what stands is the array step
pub shift_done : (code : ℕ) (b : Inputs) (before now : List Registers) (links : ℕ) (carry : Bool)
    → IsDownward code b before now 0 links carry
    → 0 < length before → AllSlices before → BusesFit (length before) b → is_shift code ≡ true
    → RunIs (length before) code b (whole before) (record { slices = now; links = links; carry = bit carry })
shift_done code b before now links carry t pos a f e =
    let first : inputs_above 0 b ≡ b = rw (div-one b.k, div-one b.m, div-one b.i) in
    let r : RunIs (length before) code b (whole before) (run_shift code b before) = shift_is before code b pos a f e in
    record {
      registers = ap whole (sym t.slices ∙ ap (λ (x : Inputs). (run_shift code x before).slices) first) ∙ r.registers;
      links = sym t.links_so_far
          ∙ (let o : 1 * (run_shift code (inputs_above 0 b) before).links ≡ (run_shift code (inputs_above 0 b) before).links =
          omega arith in o)
          ∙ ap (λ (x : Inputs). (run_shift code x before).links) first ∙ r.links;
      carry = sym t.last ∙ ap (λ (x : Inputs). (run_shift code x before).carry) first ∙ r.carry;
    }
