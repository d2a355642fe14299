-- Outside the shift, the loop over the slices is the recursion: what stands after j slices, followed by a run of the
-- others, is the run of all.
use Rattle.std.proofs.Common.{ℕ, ◌+◌, ◌*◌, ◌/◌, ◌%◌, ◌^◌, ◌<◌, ◌≤◌, ◌≡◌, sym, ap, ◌∙◌, arith, Bool, false, refl, subst, List, [], ◌∷◌, length, get_or, ◌++◌, take, drop, add-one, drop-cons, append_assoc, append-nil, set}
use Rattle.cpe_slice.specs.Registers.{Registers, AllBelow}
use Rattle.cpe_slice.specs.WordStep.{Inputs, array_step, bit}
use Rattle.cpe_slice.specs.FunctionCode.{is_shift}
use Rattle.slice_array.specs.Whole.{whole, AllSlices}
use Rattle.std.proofs.lemmas.List.{drop-drop, drop-set-lt, take_all, drop_all}
use Rattle.std.proofs.lemmas.Grind.{take-set_at}
use mir.Val.{bool_byte}
use Rattle.slice_array.proofs.BaseFour.{further}
use Rattle.slice_array.proofs.WholeWords.{all_set}
use Rattle.slice_array.proofs.LinkBits.{more_links, more_small}
use Rattle.slice_array.proofs.RippleRun.{Run, digit_inputs, rest_inputs, run, BusesFit, RunIs, run_is}

-- what the slices from j on take in
abbrev pub inputs_from : ℕ → Inputs → Bool → Inputs
inputs_from j b c = record { k = b.k / 4 ^ j; m = b.m / 4 ^ j; i = b.i / 4 ^ j; ci = bit c; li = b.li }

-- what stands after j slices
pub record IsThrough (code : ℕ) (b : Inputs) (before now : List Registers) (j links : ℕ) (carry : Bool) : Type 0 where
  pub rest : drop j now ≡ drop j before
  pub digits : AllSlices now
  pub slices : (run code b before).slices ≡ take j now ++ (run code (inputs_from j b carry) (drop j before)).slices
  pub links_so_far : (run code b before).links ≡ links + 2 ^ j * (run code (inputs_from j b carry) (drop j before)).links
  pub last : (run code b before).carry ≡ (run code (inputs_from j b carry) (drop j before)).carry
  pub small : links < 2 ^ j

-- a run of a slice and those above it
run_cons : (code : ℕ) (b : Inputs) (s : Registers) (ss : List Registers)
    → run code b (s ∷ ss) ≡ (record {
      slices = (array_step 1 code (digit_inputs b) s).registers
          ∷ (run code (rest_inputs b (array_step 1 code (digit_inputs b) s).fi) ss).slices;
      links = (array_step 1 code (digit_inputs b) s).fi + 2
          * (run code (rest_inputs b (array_step 1 code (digit_inputs b) s).fi) ss).links;
      carry = (run code (rest_inputs b (array_step 1 code (digit_inputs b) s).fi) ss).carry;
    })
unfolding run
run_cons code b s ss = refl

-- the inputs one slice further
rest_from : (j : ℕ) (b : Inputs) (carry co : Bool) → rest_inputs (inputs_from j b carry) (bit co) ≡ inputs_from (j + 1) b co
rest_from j b carry co = rw (further b.k j, further b.m j, further b.i j)

-- the slices from j on are slice j and those from j + 1 on
drop_at : (xs : List Registers) (j : ℕ) (d s : Registers) → j < length xs → s ≡ get_or xs j d → drop j xs ≡ s ∷ drop (j + 1) xs
drop_at xs j d s h e = rw (add-one, drop-cons xs j d h, ← e)

-- the slices from j + 1 on are those that stood there, where those from j on are
after : (xs ys : List Registers) (j : ℕ) → drop j xs ≡ drop j ys → drop (j + 1) xs ≡ drop (j + 1) ys
after xs ys j e = sym (drop-drop 1 j xs) ∙ ap (λ (l : List Registers). drop 1 l) e ∙ drop-drop 1 j ys

-- one slice further
pub ripple_next : (code : ℕ) (b : Inputs) (before now : List Registers) (j links y : ℕ) (carry co : Bool) (d s s' : Registers)
    (p : Inputs)
    → IsThrough code b before now j links carry → j < length now → j < 16 → s ≡ get_or now j d → AllBelow 4 s' → y ≡ bool_byte co
    → p ≡ digit_inputs (inputs_from j b carry) → s' ≡ (array_step 1 code p s).registers → bit co ≡ (array_step 1 code p s).fi
    → IsThrough code b before (set now j s') (j + 1) (links + y * 2 ^ j % 4294967296) co
ripple_next code b before now j links y carry co d s s' p t lt small is below ye pe we ce =
    let cons : drop j before ≡ s ∷ drop (j + 1) before = sym t.rest ∙ drop_at now j d s lt is
    ∙ ap (λ (l : List Registers). s ∷ l) (after now before j t.rest) in
    let cons_run : run code (inputs_from j b carry) (drop j before) ≡ (record {
      slices = s' ∷ (run code (inputs_from (j + 1) b co) (drop (j + 1) before)).slices;
      links = bit co + 2 * (run code (inputs_from (j + 1) b co) (drop (j + 1) before)).links;
      carry = (run code (inputs_from (j + 1) b co) (drop (j + 1) before)).carry;
    }) = rw (cons, run_cons, ← pe, ← ce, rest_from j b carry co, ← we) in
    record {
      rest = drop-set-lt (j + 1) now j s' (omega arith) ∙ after now before j t.rest;
      digits = all_set now j s' t.digits below;
      slices = t.slices ∙ ap (λ (r : Run). take j now ++ r.slices) cons_run ∙ (rw (take-set_at now j (j + 1) s' refl lt, append_assoc));
      links_so_far = t.links_so_far ∙ ap (λ (r : Run). links + 2 ^ j * r.links) cons_run
          ∙ more_links links j y co (run code (inputs_from (j + 1) b co) (drop (j + 1) before)).links ye small;
      last = t.last ∙ ap (λ (r : Run). r.carry) cons_run;
      small = more_small links j y co ye small t.small;
    }

-- a run of no slice hands CI on
pub run_nil : (code : ℕ) (b : Inputs) → run code b [] ≡ (record { slices = []; links = 0; carry = b.ci })
unfolding run
run_nil code b = refl

-- after the last slice, the run of all is what stands
pub ripple_all : (code : ℕ) (b : Inputs) (before now : List Registers) (j links : ℕ) (carry : Bool)
    → IsThrough code b before now j links carry → length before ≤ j → length now ≤ j
    → run code b before ≡ (record { slices = now; links = links; carry = bit carry })
ripple_all code b before now j links carry t h k =
    let none : run code (inputs_from j b carry) (drop j before) ≡ (record { slices = []; links = 0; carry = bit carry }) =
    rw (drop_all j before h) (run_nil code (inputs_from j b carry)) in
    same (run code b before) (t.slices ∙ ap (λ (r : Run). take j now ++ r.slices) none ∙ (rw (append-nil, take_all j now k)))
    (t.links_so_far ∙ ap (λ (r : Run). links + 2 ^ j * r.links) none ∙ (let e : links + 2 ^ j * 0 ≡ links = omega arith in e))
    (t.last ∙ ap (λ (r : Run). r.carry) none)
  where
    same : (r : Run) {ss : List Registers} {l c : ℕ} → r.slices ≡ ss → r.links ≡ l → r.carry ≡ c
        → r ≡ (record { slices = ss; links = l; carry = c })
    same r e f g = λ i. record { slices = e i; links = f i; carry = g i }

-- so what stands is the array step
pub ripple_done : (code : ℕ) (b : Inputs) (before now : List Registers) (j links : ℕ) (carry : Bool)
    → IsThrough code b before now j links carry → length before ≤ j → length now ≤ j
    → 0 < length before → AllSlices before → BusesFit (length before) b → is_shift code ≡ false
    → RunIs (length before) code b (whole before) (record { slices = now; links = links; carry = bit carry })
ripple_done code b before now j links carry t h k pos a f e =
    subst (λ (r : Run). RunIs (length before) code b (whole before) r) (ripple_all code b before now j links carry t h k)
    (run_is before code b pos a f e)
