-- All labels, all pinned labels and all clocks of a case, without writing them out.
use Rattle.std.proofs.Common.{◌≡◌, ℕ, zero, suc, ◌+◌, ◌<◌, ◌≤◌, Bool, List, [], ◌∷◌, ◌++◌, length, Some, refl, sym, ap, subst, ◌∙◌, arith, inl, inr}
use Rattle.std.specs.Prelude.{map, slice_get}
use Rattle.std.specs.List.{range_with_len, filter, AllByRecursion}
use Rattle.std.proofs.lemmas.Bool.{cases_Bool}
use Rattle.std.proofs.lemmas.List.FromFn.{length-range_with_len}
use Rattle.gen_case.specs.Labels.{labels, is_pinned, pinned_labels}
use Rattle.gen_case.proofs.TextLemmas.{labels_are}

-- a fact for each of some numbers that follow each other
range_all : (P : ℕ → Type 0) (bound first count : ℕ) → first + count ≤ bound → ((k : ℕ) → k < bound → P k)
    → AllByRecursion P (range_with_len first count)
range_all P bound first zero fits each = tt
range_all P bound first (suc count) fits each = (each first (omega arith), range_all P bound (first + 1) count (omega arith) each)

-- and for those of them that pass a test
pub filter_all : (P : ℕ → Type 0) (test : ℕ → Bool) (xs : List ℕ) → AllByRecursion P xs → AllByRecursion P (filter test xs)
filter_all P test [] all = tt
filter_all P test (x ∷ xs) all = elim (cases_Bool (test x)) [
  | inl passes ↦ rw passes (all.0, filter_all P test xs all.1)
  | inr fails ↦ rw fails (filter_all P test xs all.1)
]

-- a fact for each of two lists
pub append_all : {X : Type 0} (P : X → Type 0) (xs ys : List X) → AllByRecursion P xs → AllByRecursion P ys → AllByRecursion P (xs ++ ys)
append_all P [] ys all more = more
append_all P (x ∷ xs) ys all more = (all.0, append_all P xs ys all.1 more)

-- a fact for what is made of each
pub map_all : {X : Type 0} (P : ℕ → Type 0) (Q : X → Type 0) (f : ℕ → X) (xs : List ℕ) → ((k : ℕ) → P k → Q (f k)) → AllByRecursion P xs
    → AllByRecursion Q (map f xs)
map_all P Q f [] each all = tt
map_all P Q f (x ∷ xs) each all = (each x all.0, map_all P Q f xs each all.1)

-- a label of a case
abbrev pub IsLabel : ℕ → Type 0
IsLabel label = label < 128

-- each label is below 128
labels_within : (n : ℕ) → n ≡ 128 → AllByRecursion IsLabel labels
labels_within n e = subst (λ (ls : List ℕ). AllByRecursion IsLabel ls) (labels_are n e)
    (range_all IsLabel 128 0 n (omega arith) (λ k small. small))

-- all labels of a case are
pub all_labels : AllByRecursion IsLabel labels
all_labels = labels_within 128 refl

-- and so is each pinned one
pub all_pinned : AllByRecursion IsLabel pinned_labels
unfolding pinned_labels
all_pinned = filter_all IsLabel is_pinned labels all_labels

-- there are 128
count_with : (n : ℕ) → n ≡ 128 → length labels ≡ 128
count_with n e = ap length (sym (labels_are n e)) ∙ length-range_with_len 0 n ∙ e

-- all labels are 128
pub labels_count : length labels ≡ 128
labels_count = count_with 128 refl

-- of which 112 are pinned
pub pinned_count : length pinned_labels ≡ 112
unfolding labels pinned_labels
pinned_count = refl

-- a number among some that follow each other
range_at : (first count place : ℕ) → place < count → slice_get (range_with_len first count) place ≡ Some (first + place)
range_at first zero place within = absurd (omega arith)
range_at first (suc count) zero within = let same : first ≡ first + 0 = omega arith in ap (λ (k : ℕ). Some k) same
range_at first (suc count) (suc place) within = let same : first + 1 + place ≡ first + suc place = omega arith in
    range_at (first + 1) count place (omega arith) ∙ ap (λ (k : ℕ). Some k) same

-- each label stands at its number
at_with : (n label : ℕ) → n ≡ 128 → label < 128 → slice_get labels label ≡ Some label
at_with n label e small =
    let same : 0 + label ≡ label = omega arith in
    ap (λ (ls : List ℕ). slice_get ls label) (sym (labels_are n e)) ∙ range_at 0 n label (omega arith) ∙ ap (λ (k : ℕ). Some k) same

-- the label at a number is that number
pub label_at : (label : ℕ) → label < 128 → slice_get labels label ≡ Some label
label_at label small = at_with 128 label refl small
