-- Each clause of the fifth class holds no literal twice, and only variables that there are.
use Rattle.std.proofs.Common.{◌≡◌, ◌≢◌, ℕ, zero, suc, ◌+◌, ◌*◌, ◌<◌, ◌≤◌, Bool, true, false, List, [], ◌∷◌, ◌++◌, length, Option, Some, None, refl, sym, ap, ◌∙◌, inl, inr, arith}
use Rattle.std.specs.Prelude.{if◌then◌else◌, ◌==◌, nat_lt}
use Rattle.std.specs.List.{All}
use Rattle.std.proofs.lemmas.Bool.{cases_order}
use Rattle.std.proofs.lemmas.Bool.Decides.{nat_tests}
use Rattle.std.proofs.lemmas.List.Elements.{All-nil}
use Rattle.mcu_jumps.specs.Landing.{outcomes_of}
use Rattle.mcu_jumps.specs.declared.kinds.Kind.{Kind}
use Rattle.mcu_jumps.specs.declared.kinds.Kind.TheVariants as kind
use Rattle.clause_base.specs.Clauses.{IsClause}
use Rattle.placement_clauses.specs.Number.{plus, minus, col_var, differ_var, pair_var, pairs_below, var_count_of}
use Rattle.placement_clauses.specs.Shape.{one}
use Rattle.placement_clauses.specs.Reaching.{col_of, keeps_half}
use Rattle.placement_clauses.specs.Clauses.{trap_pair, trap_of, trap_outcome, trap_clauses}
use Rattle.placement_clauses.specs.FirstLabel.{first_real, first_label}
use Rattle.placement_clauses.proofs.UptoLemmas.{pairs-more}
use Rattle.clause_encode.proofs.ValidLemmas.{in_plus, in_minus, plus_minus, minus_apart, valid_two, valid_three, are_one, are_both, are_upto, are_at_place}
use Rattle.clause_encode.proofs.ClassValid.{col_below}

-- the pairs with a number below n are among the pairs below n
pub pairs_below_more : (j n : ℕ) → j < n → pairs_below j + j ≤ pairs_below n
pairs_below_more j zero lt = absurd (omega arith)
pairs_below_more j (suc n) lt = elim (cases_order j n) as (λ _. pairs_below j + j ≤ pairs_below (suc n)) [
  | inl same ↦ plain _ _ (ap (λ m. pairs_below m + m) same ∙ sym (pairs-more n))
  | inr (inl below) ↦ step _ _ _ (pairs_below_more j n below) (pairs-more n)
  | inr (inr above) ↦ absurd (omega arith)
]
  where
    plain : (a b : ℕ) → a ≡ b → a ≤ b
    plain a b e = omega arith

    step : (a b c : ℕ) → a ≤ b → c ≡ b + n → a ≤ c
    step a b c h e = omega arith

-- the variable of two labels is one of the program
pub differ_in : (n i j : ℕ) → i < j → j < n → differ_var n i j ≤ var_count_of n
differ_in n i j ordered j_in = least (pairs_below j) (pairs_below n) (pairs_below_more j n j_in)
  where
    least : (p q : ℕ) → p + j ≤ q → 48 * n + p + i + 1 ≤ 48 * n + q + 3 * n
    least p q h = omega arith

-- in any order
pair_in : (n i j : ℕ) → i < n → j < n → i ≢ j → (0 < pair_var n i j) × (pair_var n i j ≤ var_count_of n)
pair_in n i j i_in j_in ne = by (nat_lt i j) refl
  where
    by : (b : Bool) → nat_lt i j ≡ b
        → (0 < (if b then differ_var n i j else differ_var n j i)) × ((if b then differ_var n i j else differ_var n j i) ≤ var_count_of n)
    by true e = let lt : i < j = grind (arith, nat_tests) in (above (48 * n + pairs_below j) i, differ_in n i j lt j_in)
      where
        above : (p i : ℕ) → 0 < p + i + 1
        above p i = omega arith
    by false e = let lt : j < i = grind (arith, nat_tests) in (above (48 * n + pairs_below i) j, differ_in n j i lt i_in)
      where
        above : (p i : ℕ) → 0 < p + i + 1
        above p i = omega arith

-- a test that keeps its half has two outcomes
half_outcomes : (k : Kind) → keeps_half k ≡ true → outcomes_of k ≡ 2
half_outcomes kind.IfF h = refl
half_outcomes kind.IfC h = refl
half_outcomes kind.IfZ h = refl
half_outcomes kind.Goto h = cc
half_outcomes kind.Strobe h = cc
half_outcomes kind.Enable h = cc
half_outcomes kind.OnPr h = cc
half_outcomes kind.OnPx h = cc
half_outcomes kind.OnLeft h = cc
half_outcomes kind.OnRight h = cc

-- columns of two labels
cols_apart : (x z a b : ℕ) → x ≢ z → a < 16 → b < 16 → minus (col_var x a) ≢ minus (col_var z b)
cols_apart x z a b ne a_in b_in = minus_apart (col_var x a) (col_var z b) (λ (e : col_var x a ≡ col_var z b). ne (omega arith))

-- a label that is kept from where a trap outcome lands
pair_valid : (n : ℕ) (k : Kind) (x e o z : ℕ) → x < n → z < n → x ≢ z → e < outcomes_of k → o < outcomes_of k
    → All (IsClause (var_count_of n)) (trap_pair n k x e o z)
pair_valid n k x e o z x_in z_in ne e_in o_in = by (keeps_half k) refl
  where
    vars : ℕ
    vars = var_count_of n

    pair_is : (0 < pair_var n x z) × (pair_var n x z ≤ var_count_of n)
    pair_is = pair_in n x z x_in z_in ne

    col_in : (y c : ℕ) → y < n → c < 16 → col_var y c ≤ var_count_of n
    col_in y c y_in c_in = least (pairs_below n) y_in
      where
        least : (p : ℕ) → y < n → 48 * y + 33 + c ≤ 48 * n + p + 3 * n
        least p lt = omega arith

    three : (a b : ℕ) → a < 16 → b < 16
        → All (IsClause (var_count_of n)) (one (plus (pair_var n x z) ∷ minus (col_var x a) ∷ minus (col_var z b) ∷ []))
    three a b a_in b_in = are_one (var_count_of n) (plus (pair_var n x z) ∷ minus (col_var x a) ∷ minus (col_var z b) ∷ [])
        (valid_three (var_count_of n) (plus (pair_var n x z)) (minus (col_var x a)) (minus (col_var z b))
        (in_plus (var_count_of n) (pair_var n x z) pair_is.0 pair_is.1)
        (in_minus (var_count_of n) (col_var x a) (omega arith) (col_in x a x_in a_in))
        (in_minus (var_count_of n) (col_var z b) (omega arith) (col_in z b z_in b_in))
        (plus_minus (pair_var n x z) (col_var x a) (omega arith)) (plus_minus (pair_var n x z) (col_var z b) (omega arith))
        (cols_apart x z a b ne a_in b_in))

    by : (h : Bool) → keeps_half k ≡ h → All (IsClause (var_count_of n)) (if h
        then one (plus (pair_var n x z) ∷ minus (col_var x (2 + e)) ∷ minus (col_var z (2 + o)) ∷ []) ++ one
        (plus (pair_var n x z) ∷ minus (col_var x (10 + e)) ∷ minus (col_var z (10 + o)) ∷ [])
        else one (plus (pair_var n x z) ∷ minus (col_var z (col_of k o 0)) ∷ []))
    by true half =
        let two = half_outcomes k half in
        are_both (var_count_of n) (one (plus (pair_var n x z) ∷ minus (col_var x (2 + e)) ∷ minus (col_var z (2 + o)) ∷ []))
        (one (plus (pair_var n x z) ∷ minus (col_var x (10 + e)) ∷ minus (col_var z (10 + o)) ∷ []))
        (three (2 + e) (2 + o) (omega (arith, two)) (omega (arith, two)))
        (three (10 + e) (10 + o) (omega (arith, two)) (omega (arith, two)))
    by false other =
        let to = col_below k o 0 o_in (omega arith) in
        are_one (var_count_of n) (plus (pair_var n x z) ∷ minus (col_var z (col_of k o 0)) ∷ [])
        (valid_two (var_count_of n) (plus (pair_var n x z)) (minus (col_var z (col_of k o 0)))
        (in_plus (var_count_of n) (pair_var n x z) pair_is.0 pair_is.1)
        (in_minus (var_count_of n) (col_var z (col_of k o 0)) (omega arith) (col_in z (col_of k o 0) z_in to))
        (plus_minus (pair_var n x z) (col_var z (col_of k o 0)) (omega arith)))

-- the traps of an instruction
pub traps_valid : (n : ℕ) (k : Kind) (ts : List (Option ℕ)) → length ts ≡ outcomes_of k → first_label ts < n
    → first_real ts < outcomes_of k → All (IsClause (var_count_of n)) (trap_clauses n k ts)
unfolding trap_clauses
traps_valid n k ts count x_in e_in =
    are_upto (var_count_of n) (length ts) _
    (λ o o_in. are_at_place (var_count_of n) ts (trap_outcome n k (first_label ts) (first_real ts)) o (λ t at. outcome o (omega arith) t))
  where
    other : (o z : ℕ) → o < outcomes_of k → z < n → (b : Bool) → (z == first_label ts) ≡ b
        → All (IsClause (var_count_of n)) (if b then [] else trap_pair n k (first_label ts) (first_real ts) o z)
    other o z o_in z_in true e = All-nil (IsClause (var_count_of n))
    other o z o_in z_in false e = pair_valid n k (first_label ts) (first_real ts) o z x_in z_in (differs (first_label ts) e) e_in o_in
      where
        differs : (x : ℕ) → (z == x) ≡ false → x ≢ z
        differs x e same = grind (arith, nat_tests)

    outcome : (o : ℕ) → o < outcomes_of k → (t : Option ℕ)
        → All (IsClause (var_count_of n)) (trap_outcome n k (first_label ts) (first_real ts) o t)
    outcome o o_in (Some y) = All-nil (IsClause (var_count_of n))
    outcome o o_in None =
        are_upto (var_count_of n) n (trap_of n k (first_label ts) (first_real ts) o)
        (λ z z_in. other o z o_in z_in (z == first_label ts) refl)
