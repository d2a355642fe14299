-- A line that its text does not refuse is right.
use Rattle.std.proofs.Common.{◌≡◌, ◌≢◌, ℕ, zero, suc, ℤ, ◌<◌, ◌≤◌, ◌==◌, Bool, true, false, not, List, [], ◌∷◌, length, map, take, get_or, Option, Some, None, refl, sym, ap, subst, ◌∙◌, arith}
use Rattle.std.specs.Prelude.{◌&&◌, ◌||◌, All, AllPairs, nat_le, nat_lt}
use Rattle.std.specs.Bool.{if◌then◌else◌}
use Rattle.std.specs.List.{list_any, list_all, position_or_len, before_first, after_first}
use Rattle.std.proofs.lemmas.Bool.{and_parts, not-true}
use Rattle.std.proofs.lemmas.Bool.Decides.{nat_tests}
use Rattle.std.proofs.lemmas.List.Sums.{prefix_len_passes}
use Rattle.clause_base.specs.Lit.{var_of}
use Rattle.ref_text.specs.declared.words.Signed.{Signed}
use Rattle.ref_text.specs.declared.why.Why.TheVariants as why
use Rattle.ref_text.specs.Words.{values_of, words_of}
use Rattle.ref_text.specs.Form.{Written, is_zero, size_of, line_in, written_in, form}
use Rattle.ref_text.specs.Fault.{is_variable, are_literals, are_hints, written_fault, text_fault, line_of}
use Rattle.ref_text.specs.Fits.{IsRight}

-- the sizes of the first values
firsts_above : (values : List Signed) (n : ℕ) → ((k : ℕ) (d : Signed) → k < n → k < length values → 0 < (get_or values k d).size)
    → All (λ hint. 0 < hint) (map size_of (take n values))
firsts_above [] zero h k d lt = absurd (omega arith)
firsts_above [] (suc n) h k d lt = absurd (omega arith)
firsts_above (v ∷ values) zero h k d lt = absurd (omega arith)
firsts_above (v ∷ values) (suc n) h zero d lt = h 0 v (omega arith) (omega arith)
firsts_above (v ∷ values) (suc n) h (suc k) d lt =
    firsts_above values n (λ i e within there. h (suc i) e (omega arith) (omega arith)) k d (omega arith)

-- the sizes before the first 0 are not 0
sizes_before : (values : List Signed) → All (λ hint. 0 < hint) (map size_of (before_first is_zero values))
sizes_before values = firsts_above values (position_or_len is_zero values) (λ k d lt there.
    let passes = prefix_len_passes (λ x. not (is_zero x)) values k d lt in
    let no : is_zero (get_or values k d) ≡ false = not-true _ passes in
    grind (arith, nat_tests))

-- a test that was passed
if_some : {X : Type 0} (b : Bool) (x y : X) → (if b then Some x else None) ≡ Some y → x ≡ y
if_some true x y e = cc
if_some false x y e = cc

-- the hints of a line of the form are not 0
hints_above : (values : Option (List Signed)) (w : Written) → written_in values ≡ Some w → All (λ hint. 0 < hint) w.line.hints
hints_above None w e = cc
hints_above (Some []) w e = cc
hints_above (Some (number ∷ values)) w e = by number.minus e
  where
    by : (minus : Bool) → (if minus then None else line_in number.size values) ≡ Some w → All (λ hint. 0 < hint) w.line.hints
    by true h = cc
    by false h =
        let same = if_some _ _ w h in
        subst (λ (v : Written). All (λ hint. 0 < hint) v.line.hints) same (sizes_before (after_first is_zero values))

pub form_hints : (line : List ℕ) (w : Written) → form line ≡ Some w → All (λ hint. 0 < hint) w.line.hints
unfolding form
form_hints line w e = hints_above (values_of (words_of line)) w e

-- literals as a test passes them
literals_above : (vars : ℕ) (zs : List ℤ) → are_literals vars zs ≡ true → All (λ z. (0 < var_of z) × (var_of z ≤ vars)) zs
unfolding are_literals
literals_above vars [] h k d lt = absurd (omega arith)
literals_above vars (z ∷ zs) h zero d lt =
    let p = and_parts (is_variable vars (var_of z) && not (list_any (λ y. var_of y == var_of z) zs)) (are_literals vars zs) h in
    let q = and_parts (is_variable vars (var_of z)) (not (list_any (λ y. var_of y == var_of z) zs)) p.0 in
    let r = and_parts (nat_le 1 (var_of z)) (nat_le (var_of z) vars) q.0 in
    (grind (arith, nat_tests), grind (arith, nat_tests))
literals_above vars (z ∷ zs) h (suc k) d lt =
    let p = and_parts (is_variable vars (var_of z) && not (list_any (λ y. var_of y == var_of z) zs)) (are_literals vars zs) h in
    literals_above vars zs p.1 k d (omega arith)

none_there : (v : ℕ) (zs : List ℤ) (k : ℕ) (d : ℤ) → k < length zs → not (list_any (λ y. var_of y == v) zs) ≡ true
    → var_of (get_or zs k d) ≢ v
none_there v [] k d lt h = absurd (omega arith)
none_there v (z ∷ zs) zero d lt h = λ e.
    let same : (var_of z == v) ≡ true = grind (arith, nat_tests) in
    let no : not (true || list_any (λ y. var_of y == v) zs) ≡ true = sym (ap (λ b. not (b || list_any (λ y. var_of y == v) zs)) same)
    ∙ h in
    cc
none_there v (z ∷ zs) (suc k) d lt h = by (var_of z == v) h (λ e. none_there v zs k d (omega arith) e)
  where
    by : (b : Bool) → not (b || list_any (λ y. var_of y == v) zs) ≡ true →
        (not (list_any (λ y. var_of y == v) zs) ≡ true → var_of (get_or zs k d) ≢ v) → var_of (get_or zs k d) ≢ v
    by true h more = cc
    by false h more = more h

literals_apart : (vars : ℕ) (zs : List ℤ) → are_literals vars zs ≡ true → AllPairs (λ a b. var_of a ≢ var_of b) zs
unfolding are_literals
literals_apart vars [] h i j d lt in_j = absurd (omega arith)
literals_apart vars (z ∷ zs) h zero zero d lt in_j = absurd (omega arith)
literals_apart vars (z ∷ zs) h zero (suc j) d lt in_j =
    let p = and_parts (is_variable vars (var_of z) && not (list_any (λ y. var_of y == var_of z) zs)) (are_literals vars zs) h in
    let q = and_parts (is_variable vars (var_of z)) (not (list_any (λ y. var_of y == var_of z) zs)) p.0 in
    λ e. none_there (var_of z) zs j d (omega arith) q.1 (sym e)
literals_apart vars (z ∷ zs) h (suc i) zero d lt in_j = absurd (omega arith)
literals_apart vars (z ∷ zs) h (suc i) (suc j) d lt in_j =
    let p = and_parts (is_variable vars (var_of z) && not (list_any (λ y. var_of y == var_of z) zs)) (are_literals vars zs) h in
    literals_apart vars zs p.1 i j d (omega arith) (omega arith)

below_at : (number : ℕ) (hints : List ℕ) (k d : ℕ) → k < length hints → list_all (λ hint. nat_lt hint number) hints ≡ true
    → get_or hints k d < number
below_at number [] k d lt h = absurd (omega arith)
below_at number (x ∷ hints) zero d lt h = let p = and_parts (nat_lt x number) _ h in grind (arith, nat_tests)
below_at number (x ∷ hints) (suc k) d lt h = let p = and_parts (nat_lt x number) (list_all (λ hint. nat_lt hint number) hints) h in
    below_at number hints k d (omega arith) p.1

-- what a line passed that is not refused
pub record Passes (number vars : ℕ) (over : Bool) (written : Option Written) : Type 0 where
  pub w : Written
  pub there : written ≡ Some w
  pub not_over : over ≡ false
  pub numbered : w.number ≡ number
  pub literals : are_literals vars w.line.clause ≡ true
  pub hints : are_hints w.number w.line.hints ≡ true

pub fault_passes : (number vars : ℕ) (over : Bool) (written : Option Written) → written_fault number vars over written ≡ None
    → Passes number vars over written
fault_passes number vars over None e = cc
fault_passes number vars true (Some w) e = cc
fault_passes number vars false (Some w) e =
    by (w.number == number) (are_literals vars w.line.clause) (are_hints w.number w.line.hints) refl refl refl e
  where
    by : (a b c : Bool) → (w.number == number) ≡ a → are_literals vars w.line.clause ≡ b → are_hints w.number w.line.hints ≡ c →
        (if not a then Some why.Number else if not b then Some why.Literal else if not c then Some why.Hint else None) ≡ None
        → Passes number vars false (Some w)
    by true true true x y z h =
        record { w = w; there = refl; not_over = refl; numbered = grind (arith, nat_tests); literals = y; hints = z }
    by true true false x y z h = cc
    by true false c x y z h = cc
    by false b c x y z h = cc

-- a line that its text does not refuse is right
pub text_right : (number vars : ℕ) (over : Bool) (line : List ℕ) → text_fault number vars over line ≡ None
    → IsRight number vars (line_of (form line))
text_right number vars over line e =
    let p = fault_passes number vars over (form line) e in
    let both = and_parts (nat_lt 0 (length p.w.line.hints)) (list_all (λ hint. nat_lt hint p.w.number) p.w.line.hints) p.hints in
    let above = literals_above vars p.w.line.clause p.literals in
    let right : IsRight number vars p.w.line = record {
      above = λ k d lt. (above k d lt).0;
      in_range = λ k d lt. (above k d lt).1;
      apart = literals_apart vars p.w.line.clause p.literals;
      some = grind (arith, nat_tests, both.0);
      hints = λ k d lt. (
        form_hints line p.w p.there k d lt,
        subst (λ (n : ℕ). get_or p.w.line.hints k d < n) p.numbered (below_at p.w.number p.w.line.hints k d lt both.1),
      );
    } in
    subst (λ (o : Option Written). IsRight number vars (line_of o)) (sym p.there) right
