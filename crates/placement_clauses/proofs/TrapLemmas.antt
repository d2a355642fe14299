-- The clauses of the trap outcomes.
use Rattle.std.proofs.Common.{◌≡◌, ◌≢◌, ℕ, ℤ, ◌+◌, ◌<◌, ◌≤◌, ◌⊎◌, inl, inr, Bool, true, false, List, [], ◌∷◌, ◌++◌, length, Option, Some, None, refl, sym, ap, subst, ◌∙◌, arith}
use Rattle.std.specs.Prelude.{◌==◌, if◌then◌else◌, nat_lt, slice_get}
use Rattle.std.proofs.lemmas.List.Elements.{All-nil, All-append}
use Rattle.std.proofs.lemmas.Option.{slice_get_within}
use Rattle.std.proofs.lemmas.Bool.{cases_Bool, cases_lt, eqb-false, ne_eqb, ltb-true, ltb-false}
use Rattle.mcu_jumps.specs.declared.kinds.Kind.{Kind}
use Rattle.clause_base.specs.TruthValues.{lit_holds, clause_holds, AllHold}
use Rattle.placement_clauses.specs.Number.{plus, minus, col_var, differ_var, pair_var}
use Rattle.placement_clauses.specs.Shape.{one}
use Rattle.placement_clauses.specs.Reaching.{col_of, keeps_half}
use Rattle.placement_clauses.specs.FirstLabel.{first_label, first_real}
use Rattle.placement_clauses.specs.Clauses.{trap_pair, trap_of, trap_outcome, trap_clauses}
use Rattle.clause_base.proofs.ListLemmas.{All-append_left, All-append_right}
use Rattle.placement_clauses.proofs.UptoLemmas.{All-upto, upto-All}
use Rattle.placement_clauses.proofs.TruthLemmas.{IsHot, hot-here, hot-is, two-hold, hold-two, three-hold, hold-three, minus-false, from_minus, from_not, to_minus}
use Rattle.placement_clauses.proofs.PlacedLemmas.{IsPlaced, Differ, col-at}
use Rattle.placement_clauses.proofs.TestLemmas.{HasCols, each-holds, holds-each}

-- D of two labels, in any order
pub record Apart (a : ℕ → Bool) (n : ℕ) (rho : ℕ → ℕ) (x z : ℕ) : Type 0 where
  pub above : 0 < pair_var n x z
  pub differ : a (pair_var n x z) ≡ true → rho x ≡ rho z → ⊥

-- the variable of the column that a label has
at-col : (a : ℕ → Bool) (y c p : ℕ) → IsHot a 16 (col_var y 0) c → c ≡ p → a (col_var y p) ≡ true
at-col a y c p h e = ap a (sym (col-at y p)) ∙ hot-here a 16 (col_var y 0) c p h e

-- a label has the column whose variable is true
col-is : (a : ℕ → Bool) (y c p : ℕ) → IsHot a 16 (col_var y 0) c → p < 16 → a (col_var y p) ≡ true → c ≡ p
col-is a y c p h lt e = hot-is a 16 (col_var y 0) c p h lt (ap a (col-at y p) ∙ e)

-- one clause of a trap outcome
pub guard-holds : (a : ℕ → Bool) (d x z p q cx cz : ℕ) → IsHot a 16 (col_var x 0) cx → IsHot a 16 (col_var z 0) cz
    → AllHold a (one (plus d ∷ minus (col_var x p) ∷ minus (col_var z q) ∷ [])) → a d ≡ false → cx ≡ p → cz ≡ q → ⊥
guard-holds a d x z p q cx cz hx hz h f e g =
    from_minus a (col_var z q) (omega arith)
    (three-hold a (plus d) (minus (col_var x p)) (minus (col_var z q)) h f
    (minus-false a (col_var x p) (omega arith) (at-col a x cx p hx e))) (at-col a z cz q hz g)

-- and the other way round
pub holds-guard : (a : ℕ → Bool) (d x z p q cx cz : ℕ) → IsHot a 16 (col_var x 0) cx → IsHot a 16 (col_var z 0) cz → p < 16 → q < 16
    → (a d ≡ false → cx ≡ p → cz ≡ q → ⊥) → AllHold a (one (plus d ∷ minus (col_var x p) ∷ minus (col_var z q) ∷ []))
holds-guard a d x z p q cx cz hx hz p_in q_in h =
    hold-three a (plus d) (minus (col_var x p)) (minus (col_var z q))
    (λ (f : a d ≡ false) (e : lit_holds a (minus (col_var x p)) ≡ false).
    to_minus a (col_var z q) (omega arith) (λ (t : a (col_var z q) ≡ true).
    h f (col-is a x cx p hx p_in (from_not a (col_var x p) (omega arith) e)) (col-is a z cz q hz q_in t)))

-- label z does not stand in the cell of the trap outcome o
pub trap-holds : (a : ℕ → Bool) (n : ℕ) (rho : ℕ → ℕ) (k : Kind) (count x e o z c cx cz : ℕ) → HasCols k count → c < 16
    → IsHot a 16 (col_var x 0) cx → IsHot a 16 (col_var z 0) cz → Apart a n rho x z → cx ≡ col_of k e c
    → AllHold a (trap_pair n k x e o z) → rho x ≡ rho z → cz ≡ col_of k o c → ⊥
trap-holds a n rho k count x e o z c cx cz has c_in hx hz d first h same_row at =
    by (keeps_half k) refl h
  where
    d_false : a (pair_var n x z) ≡ false
    d_false = elim (cases_Bool (a (pair_var n x z))) as (λ _. a (pair_var n x z) ≡ false)
        [ inl t ↦ absurd (d.differ t same_row) | inr f ↦ f ]

    low : List (List ℤ)
    low = one (plus (pair_var n x z) ∷ minus (col_var x (2 + e)) ∷ minus (col_var z (2 + o)) ∷ [])

    high : List (List ℤ)
    high = one (plus (pair_var n x z) ∷ minus (col_var x (10 + e)) ∷ minus (col_var z (10 + o)) ∷ [])

    by : (b : Bool) → keeps_half k ≡ b
        → AllHold a (if b then one (plus (pair_var n x z) ∷ minus (col_var x (2 + e)) ∷ minus (col_var z (2 + o)) ∷ []) ++ one
        (plus (pair_var n x z) ∷ minus (col_var x (10 + e)) ∷ minus (col_var z (10 + o)) ∷ []) else one
        (plus (pair_var n x z) ∷ minus (col_var z (col_of k o 0)) ∷ [])) → ⊥
    by true f h = elim (has.halves f c c_in) as (λ _. ⊥) [
      | inl two ↦ guard-holds a (pair_var n x z) x z (2 + e) (2 + o) cx cz hx hz
          (All-append_left (λ c. clause_holds a c ≡ true)
          (one (plus (pair_var n x z) ∷ minus (col_var x (2 + e)) ∷ minus (col_var z (2 + o)) ∷ []))
          (one (plus (pair_var n x z) ∷ minus (col_var x (10 + e)) ∷ minus (col_var z (10 + o)) ∷ [])) h) d_false (first ∙ two e)
          (at ∙ two o)
      | inr ten ↦ guard-holds a (pair_var n x z) x z (10 + e) (10 + o) cx cz hx hz
          (All-append_right (λ c. clause_holds a c ≡ true)
          (one (plus (pair_var n x z) ∷ minus (col_var x (2 + e)) ∷ minus (col_var z (2 + o)) ∷ []))
          (one (plus (pair_var n x z) ∷ minus (col_var x (10 + e)) ∷ minus (col_var z (10 + o)) ∷ [])) h) d_false (first ∙ ten e)
          (at ∙ ten o)
    ]
    by false f h = from_minus a (col_var z (col_of k o 0)) (omega arith)
        (two-hold a (plus (pair_var n x z)) (minus (col_var z (col_of k o 0))) h d_false)
        (at-col a z cz (col_of k o 0) hz (at ∙ has.fixed f c o))

-- and the other way round
pub holds-trap : (a : ℕ → Bool) (n : ℕ) (rho : ℕ → ℕ) (k : Kind) (count x e o z c cx cz : ℕ) → HasCols k count → c < 16 → e < count
    → o < count → count ≤ 6 ⊎ (keeps_half k ≡ false)
    → IsHot a 16 (col_var x 0) cx → IsHot a 16 (col_var z 0) cz → (a (pair_var n x z) ≡ false → rho x ≡ rho z) → cx ≡ col_of k e c
    → (rho x ≡ rho z → cz ≡ col_of k o c → ⊥) → AllHold a (trap_pair n k x e o z)
holds-trap a n rho k count x e o z c cx cz has c_in e_in o_in few hx hz same_row first free =
    by (keeps_half k) refl few
  where
    by : (b : Bool) → keeps_half k ≡ b → (count ≤ 6 ⊎ (keeps_half k ≡ false))
        → AllHold a (if b then one (plus (pair_var n x z) ∷ minus (col_var x (2 + e)) ∷ minus (col_var z (2 + o)) ∷ []) ++ one
        (plus (pair_var n x z) ∷ minus (col_var x (10 + e)) ∷ minus (col_var z (10 + o)) ∷ []) else one
        (plus (pair_var n x z) ∷ minus (col_var z (col_of k o 0)) ∷ []))
    by true f (inr other) = let t : true ≡ false = sym f ∙ other in cc
    by true f (inl six) =
        All-append (λ c. clause_holds a c ≡ true)
        (one (plus (pair_var n x z) ∷ minus (col_var x (2 + e)) ∷ minus (col_var z (2 + o)) ∷ []))
        (one (plus (pair_var n x z) ∷ minus (col_var x (10 + e)) ∷ minus (col_var z (10 + o)) ∷ []))
        (holds-guard a (pair_var n x z) x z (2 + e) (2 + o) cx cz hx hz (omega arith) (omega arith)
        (λ (d : a (pair_var n x z) ≡ false) (p : cx ≡ 2 + e) (q : cz ≡ 2 + o).
        elim (has.halves f c c_in) as (λ _. ⊥) [
          | inl two ↦ free (same_row d) (q ∙ sym (two o))
          | inr ten ↦ let t : 2 + e ≡ 10 + e = sym p ∙ first ∙ ten e in absurd (omega arith)
        ]))
        (holds-guard a (pair_var n x z) x z (10 + e) (10 + o) cx cz hx hz (omega arith) (omega arith)
        (λ (d : a (pair_var n x z) ≡ false) (p : cx ≡ 10 + e) (q : cz ≡ 10 + o).
        elim (has.halves f c c_in) as (λ _. ⊥) [
          | inl two ↦ let t : 10 + e ≡ 2 + e = sym p ∙ first ∙ two e in absurd (omega arith)
          | inr ten ↦ free (same_row d) (q ∙ sym (ten o))
        ]))
    by false f few = hold-two a (plus (pair_var n x z)) (minus (col_var z (col_of k o 0))) (λ (d : a (pair_var n x z) ≡ false).
        to_minus a (col_var z (col_of k o 0)) (omega arith) (λ (t : a (col_var z (col_of k o 0)) ≡ true).
        free (same_row d) (col-is a z cz (col_of k o 0) hz (has.below 0 o (omega arith) o_in) t ∙ sym (has.fixed f c o))))

-- no label but x stands in the cell of a trap outcome
unfoldable pub TrapsFree : Kind → ℕ → (ℕ → ℕ) → (ℕ → ℕ) → ℕ → List (Option ℕ) → ℕ → Type 0
TrapsFree k n rho gam s ts x = (o z : ℕ) → slice_get ts o ≡ Some None → z < n → z ≢ x → rho x ≡ rho z → gam z ≡ col_of k o (gam s) → ⊥

-- class 5 says that trap outcomes land on no label
pub traps-hold : (a : ℕ → Bool) (n : ℕ) (rho gam : ℕ → ℕ) (k : Kind) (s : ℕ) (ts : List (Option ℕ)) → IsPlaced a n rho gam
    → HasCols k (length ts) → s < n → first_label ts < n
    → ((x z : ℕ) → x < n → z < n → x ≢ z → Apart a n rho x z) → gam (first_label ts) ≡ col_of k (first_real ts) (gam s)
    → AllHold a (trap_clauses n k ts) → TrapsFree k n rho gam s ts (first_label ts)
unfolding TrapsFree trap_clauses
traps-hold a n rho gam k s ts p has s_in x_in apart first h o z there z_in ne same_row at =
    let x = first_label ts in
    let e = first_real ts in
    let row : AllHold a (trap_outcome n k x e o None) = each-holds a ts (trap_outcome n k x e) o None h there in
    let one_z : AllHold a (trap_of n k x e o z) = upto-All (λ c. clause_holds a c ≡ true) n (trap_of n k x e o) row z z_in in
    let here : AllHold a (trap_pair n k x e o z) =
    subst (λ b. AllHold a (if b then [] else trap_pair n k x e o z)) (ne_eqb z x ne) one_z in
    trap-holds a n rho k (length ts) x e o z (gam s) (gam x) (gam z) has (p.cols s s_in).within (p.cols x x_in) (p.cols z z_in)
    (apart x z x_in z_in (λ (q : x ≡ z). ne (sym q))) first here same_row at

-- and the other way round
pub hold-traps : (a : ℕ → Bool) (n : ℕ) (rho gam : ℕ → ℕ) (k : Kind) (s : ℕ) (ts : List (Option ℕ)) → IsPlaced a n rho gam
    → HasCols k (length ts) → s < n → first_label ts < n → first_real ts < length ts
    → (length ts ≤ 6 ⊎ (keeps_half k ≡ false))
    → ((x z : ℕ) → x < n → z < n → x ≢ z → a (pair_var n x z) ≡ false → rho x ≡ rho z)
    → gam (first_label ts) ≡ col_of k (first_real ts) (gam s)
    → TrapsFree k n rho gam s ts (first_label ts) → AllHold a (trap_clauses n k ts)
unfolding TrapsFree trap_clauses
hold-traps a n rho gam k s ts p has s_in x_in e_in few same_row first free =
    holds-each a ts (trap_outcome n k (first_label ts) (first_real ts)) outcome
  where
    pair : (o z : ℕ) → slice_get ts o ≡ Some None → z < n → (b : Bool) → (z == first_label ts) ≡ b
        → AllHold a (if b then [] else trap_pair n k (first_label ts) (first_real ts) o z)
    pair o z there z_in true e = All-nil (λ c. clause_holds a c ≡ true)
    pair o z there z_in false e =
        let ne : z ≢ first_label ts = eqb-false z (first_label ts) e in
        holds-trap a n rho k (length ts) (first_label ts) (first_real ts) o z (gam s) (gam (first_label ts)) (gam z) has
        (p.cols s s_in).within e_in (slice_get_within ts o None there) few (p.cols (first_label ts) x_in) (p.cols z z_in)
        (same_row (first_label ts) z x_in z_in (λ (q : first_label ts ≡ z). ne (sym q))) first (λ r c. free o z there z_in ne r c)

    outcome : (o : ℕ) (t : Option ℕ) → slice_get ts o ≡ Some t → AllHold a (trap_outcome n k (first_label ts) (first_real ts) o t)
    outcome o (Some y) there = All-nil (λ c. clause_holds a c ≡ true)
    outcome o None there =
        All-upto (λ c. clause_holds a c ≡ true) n (trap_of n k (first_label ts) (first_real ts) o)
        (λ z z_in. pair o z there z_in (z == first_label ts) refl)

-- what the clauses of class 2 say in any order
pub apart-any : (a : ℕ → Bool) (n : ℕ) (rho gam : ℕ → ℕ) → ((i j : ℕ) → i < j → j < n → Differ a n rho gam i j) → (x z : ℕ) → x < n
    → z < n → x ≢ z → Apart a n rho x z
apart-any a n rho gam h x z x_in z_in ne = let r = make (nat_lt x z) refl in record { above = r.0; differ = r.1 }
  where
    make : (b : Bool) → nat_lt x z ≡ b
        → (0 < (if b then differ_var n x z else differ_var n z x))
        × (a (if b then differ_var n x z else differ_var n z x) ≡ true → rho x ≡ rho z → ⊥)
    make true e = let lt : x < z = ltb-true x z e in (omega arith, (h x z lt z_in).rows)
    make false e =
        let le : z ≤ x = ltb-false x z e in
        let lt : z < x = below z x le (λ (q : z ≡ x). ne (sym q)) in
        (omega arith, λ t q. (h z x lt x_in).rows t (sym q))
      where
        below : (z x : ℕ) → z ≤ x → (z ≡ x → ⊥) → z < x
        below z x le n = elim (cases_lt z x) as (λ _. z < x) [ inl l ↦ l | inr g ↦ absurd (n (omega arith)) ]
