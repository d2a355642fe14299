-- Labels of pins and of instructions.
use Rattle.std.proofs.Common.{◌≡◌, ℕ, zero, suc, ◌<◌, Bool, true, false, not, ◌||◌, cond, List, [], ◌∷◌, ◌++◌, length, Some, None, refl, sym, ap, subst, ◌∙◌, arith, ltb, inl, inr}
use Rattle.std.specs.Prelude.{map, slice_get, find}
use Rattle.std.specs.List.{list_any, position_or_len}
use Rattle.std.specs.Str.{bytes_eq}
use Rattle.std.proofs.lemmas.Bool.{cases_Bool, and_parts, and_from, or_parts, or_from, not-true, not_from_false, or_left, or_right, both_ways, lt-ltb, ltb-true}
use Rattle.std.proofs.lemmas.Cmp.{nat_list_eq_equiv}
use Rattle.std.proofs.lemmas.List.Folds.{list_any-append}
use Rattle.std.proofs.lemmas.List.Sums.{passes_at_first}
use Rattle.std.proofs.lemmas.Option.{cond_some, get_or_from_slice_get}
use Rattle.micro_asm.specs.declared.accepted_lines.PinLine.{PinLine}
use Rattle.micro_asm.specs.declared.accepted_lines.NamedInstr.{NamedInstr}
use Rattle.micro_asm.specs.Earlier.{has_label, is_pinned, labels_of, pinned_labels, are_apart}
use Rattle.micro_asm.specs.Source.{label_place}

-- ---- labels as keys

-- a label among the labels of the pins is a pin's
pub pinned_label : (name : List ℕ) (pins : List PinLine) → list_any (bytes_eq name) (pinned_labels pins) ≡ is_pinned pins name
pinned_label name [] = refl
pinned_label name (pin ∷ pins) = ap (λ (b : Bool). bytes_eq name pin.label || b) (pinned_label name pins)

pub pinned_push : (pins : List PinLine) (pin : PinLine) → pinned_labels (pins ++ pin ∷ []) ≡ pinned_labels pins ++ pin.label ∷ []
pinned_push [] pin = refl
pinned_push (p ∷ pins) pin = ap (λ (names : List (List ℕ)). p.label ∷ names) (pinned_push pins pin)

-- a label among the labels of the instructions is an instruction's
pub label_among : (name : List ℕ) (instrs : List NamedInstr) → list_any (bytes_eq name) (labels_of instrs) ≡ has_label instrs name
label_among name [] = refl
label_among name (instr ∷ instrs) = ap (λ (b : Bool). bytes_eq name instr.label || b) (label_among name instrs)

pub labels_push : (instrs : List NamedInstr) (instr : NamedInstr)
    → labels_of (instrs ++ instr ∷ []) ≡ labels_of instrs ++ instr.label ∷ []
labels_push [] instr = refl
labels_push (i ∷ instrs) instr = ap (λ (names : List (List ℕ)). i.label ∷ names) (labels_push instrs instr)

-- ---- labels that differ

-- one more label that is new leaves the labels apart
pub apart_push : (names : List (List ℕ)) (name : List ℕ) → are_apart names ≡ true → list_any (bytes_eq name) names ≡ false
    → are_apart (names ++ name ∷ []) ≡ true
apart_push [] name d new = refl
apart_push (n ∷ names) name d new =
    let old = and_parts (not (list_any (bytes_eq n) names)) (are_apart names) d in
    let other = or_parts (bytes_eq name n) (list_any (bytes_eq name) names) new in
    let differs : bytes_eq n name ≡ false = nat_list_eq_equiv.symm n name ∙ other.0 in
    let none : list_any (bytes_eq n) (names ++ name ∷ []) ≡ false =
    list_any-append (bytes_eq n) names (name ∷ [])
    ∙ or_from (list_any (bytes_eq n) names) (bytes_eq n name || false) (not-true (list_any (bytes_eq n) names) old.0)
    (or_from (bytes_eq n name) false differs refl) in
    and_from (not (list_any (bytes_eq n) (names ++ name ∷ []))) (are_apart (names ++ name ∷ []))
    (not_from_false (list_any (bytes_eq n) (names ++ name ∷ [])) none) (apart_push names name old.1 other.1)

-- ---- lists

pub any_at : {X : Type 0} (p : X → Bool) (xs : List X) (k : ℕ) (x : X) → slice_get xs k ≡ Some x → p x ≡ true → list_any p xs ≡ true
any_at p [] k x at passes = absurd (cc at)
any_at p (y ∷ xs) zero x at passes = let same : y ≡ x = cc in or_left (p y) (list_any p xs) (ap p same ∙ passes)
any_at p (y ∷ xs) (suc k) x at passes = or_right (p y) (list_any p xs) (any_at p xs k x at passes)

-- what is not found does not pass
pub missed_at : {X : Type 0} (p : X → Bool) (xs : List X) (k : ℕ) (x : X) → find p xs ≡ None → slice_get xs k ≡ Some x → p x ≡ false
missed_at p [] k x none at = absurd (cc at)
missed_at p (y ∷ xs) zero x none at =
    let same : y ≡ x = cc in
    sym (ap p same) ∙ fails (p y) none
  where
    fails : (b : Bool) → cond b (Some y) (find p xs) ≡ None → b ≡ false
    fails true none = absurd (cc none)
    fails false none = refl
missed_at p (y ∷ xs) (suc k) x none at = missed_at p xs k x (rest (p y) none) at
  where
    rest : (b : Bool) → cond b (Some y) (find p xs) ≡ None → find p xs ≡ None
    rest true none = absurd (cc none)
    rest false none = none

-- an element of a mapped list comes from one of the list
pub from_map : {A B : Type 0} (f : A → B) (xs : List A) (k : ℕ) (y : B) → slice_get (map f xs) k ≡ Some y
    → (x : A) × (slice_get xs k ≡ Some x) × (f x ≡ y)
from_map f [] k y at = absurd (cc at)
from_map f (x ∷ xs) zero y at = (x, refl, cc)
from_map f (x ∷ xs) (suc k) y at = from_map f xs k y at

-- an element within the list is there
pub there : {X : Type 0} (xs : List X) (k : ℕ) → k < length xs → (x : X) × (slice_get xs k ≡ Some x)
there [] k within = absurd (omega arith)
there (x ∷ xs) zero within = (x, refl)
there (x ∷ xs) (suc k) within = there xs k (omega arith)

-- ---- places of labels

pub first_within : {X : Type 0} (p : X → Bool) (xs : List X) → list_any p xs ≡ true → position_or_len p xs < length xs
first_within p [] has = absurd (cc has)
first_within p (x ∷ xs) has = elim (cases_Bool (p x)) [
  | inl passes ↦ rw passes (omega arith)
  | inr fails ↦ (let more : position_or_len p xs < length xs =
      first_within p xs (sym (ap (λ (b : Bool). b || list_any p xs) fails) ∙ has) in rw fails (omega (arith, more)))
]

-- the place of a label is within the instructions, and the instruction there has it
pub record StandsAt (instrs : List NamedInstr) (name : List ℕ) (place : ℕ) : Type 0 where
  pub is_place : label_place instrs name ≡ Some place
  pub within : place < length instrs
  pub instr : NamedInstr
  pub at : slice_get instrs place ≡ Some instr
  pub named : bytes_eq name instr.label ≡ true

pub stands : (instrs : List NamedInstr) (name : List ℕ) → has_label instrs name ≡ true → (place : ℕ) × StandsAt instrs name place
stands instrs name has =
    let p : NamedInstr → Bool = λ instr. bytes_eq name instr.label in
    let within : position_or_len p instrs < length instrs = first_within p instrs has in
    let here : (instr : NamedInstr)
    × (slice_get instrs (position_or_len p instrs) ≡ Some instr) = there instrs (position_or_len p instrs) within in (
      position_or_len p instrs,
      record {
        is_place = ap (λ (b : Bool). cond b (Some (position_or_len p instrs)) None)
            (lt-ltb (position_or_len p instrs) (length instrs) within);
        within = within;
        instr = here.0;
        at = here.1;
        named = sym (ap p (get_or_from_slice_get instrs (position_or_len p instrs) here.0 here.0 here.1))
            ∙ passes_at_first p instrs here.0 within;
      },
    )

pub place_within : (instrs : List NamedInstr) (name : List ℕ) (place : ℕ) → label_place instrs name ≡ Some place → place < length instrs
place_within instrs name place is_place =
    let p : NamedInstr → Bool = λ instr. bytes_eq name instr.label in
    let parts : (ltb (position_or_len p instrs) (length instrs) ≡ true)
    × (position_or_len p instrs ≡ place) =
    cond_some (ltb (position_or_len p instrs) (length instrs)) (position_or_len p instrs) place is_place in
    subst (λ (k : ℕ). k < length instrs) parts.1 (ltb-true (position_or_len p instrs) (length instrs) parts.0)

-- labels that are apart are equal only at one place
pub apart_at : (names : List (List ℕ)) (i j : ℕ) (a b : List ℕ) → are_apart names ≡ true → slice_get names i ≡ Some a
    → slice_get names j ≡ Some b → bytes_eq a b ≡ true → i ≡ j
apart_at [] i j a b apart at_i at_j same = absurd (cc at_i)
apart_at (n ∷ names) zero zero a b apart at_i at_j same = refl
apart_at (n ∷ names) zero (suc j) a b apart at_i at_j same =
    let mine : n ≡ a = cc in
    let again : list_any (bytes_eq n) names ≡ true = any_at (bytes_eq n) names j b at_j (ap (λ (x : List ℕ). bytes_eq x b) mine ∙ same) in
    absurd (both_ways (list_any (bytes_eq n) names)
    (not-true (list_any (bytes_eq n) names) (and_parts (not (list_any (bytes_eq n) names)) (are_apart names) apart).0) again)
apart_at (n ∷ names) (suc i) zero a b apart at_i at_j same =
    let mine : n ≡ b = cc in
    let again : list_any (bytes_eq n) names ≡ true =
    any_at (bytes_eq n) names i a at_i (nat_list_eq_equiv.symm n a ∙ ap (bytes_eq a) mine ∙ same) in
    absurd (both_ways (list_any (bytes_eq n) names)
    (not-true (list_any (bytes_eq n) names) (and_parts (not (list_any (bytes_eq n) names)) (are_apart names) apart).0) again)
apart_at (n ∷ names) (suc i) (suc j) a b apart at_i at_j same =
    ap suc (apart_at names i j a b (and_parts (not (list_any (bytes_eq n) names)) (are_apart names) apart).1 at_i at_j same)
