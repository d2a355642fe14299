-- The clauses of a statement that tests.
use Rattle.std.proofs.Common.{◌≡◌, ℕ, ℤ, ◌+◌, ◌<◌, ◌⊎◌, inl, inr, Bool, true, false, ◌||◌, List, [], ◌∷◌, length, Option, Some, None, refl, sym, ap, subst, ◌∙◌, arith}
use Rattle.std.specs.Prelude.{◌==◌, if◌then◌else◌, slice_get}
use Rattle.std.specs.List.{list_any}
use Rattle.std.specs.Option.{option_map_or}
use Rattle.std.proofs.lemmas.List.Elements.{All-nil, All-append}
use Rattle.std.proofs.lemmas.Option.{slice_get_within}
use Rattle.std.proofs.lemmas.Bool.{cases_Bool, eqb-true, or_left, or_right}
use Rattle.mcu_jumps.specs.declared.kinds.Kind.{Kind}
use Rattle.placement_clauses.specs.Upto.{upto, each_of}
use Rattle.clause_base.specs.TruthValues.{lit_holds, clause_holds, AllHold}
use Rattle.placement_clauses.specs.Number.{plus, minus, row_var, col_var}
use Rattle.placement_clauses.specs.Shape.{one, plus_at, same}
use Rattle.placement_clauses.specs.Reaching.{reaches, col_of, keeps_half}
use Rattle.placement_clauses.specs.Clauses.{reach_lit, reach_clause, reach_clauses, col_clause, col_clauses, outcome_clauses, target_clauses, test_clauses}
use Rattle.clause_base.proofs.ListLemmas.{All-append_left, All-append_right}
use Rattle.placement_clauses.proofs.UptoLemmas.{All-upto, upto-All, any-upto, upto-any}
use Rattle.placement_clauses.proofs.TruthLemmas.{IsHot, hot-here, hot-is, same-holds, holds-same, unit-holds, holds-unit, two-hold, hold-two, minus-false, minus-true, from_not, one-holds, holds-one, one_of}
use Rattle.placement_clauses.proofs.PlacedLemmas.{IsPlaced, row-at, col-at}

-- the clauses of each element
pub each-holds : {X : Type 0} (a : ℕ → Bool) (xs : List X) (f : ℕ → X → List (List ℤ)) (i : ℕ) (x : X) → AllHold a (each_of xs f)
    → slice_get xs i ≡ Some x → AllHold a (f i x)
each-holds a xs f i x h e =
    let here : AllHold a (option_map_or (f i) (slice_get xs i) []) =
    upto-All (λ c. clause_holds a c ≡ true) (length xs) (λ i. option_map_or (f i) (slice_get xs i) []) h i (slice_get_within xs i x e)
    in
    subst (λ o. AllHold a (option_map_or (f i) o [])) e here

-- and the other way round
pub holds-each : {X : Type 0} (a : ℕ → Bool) (xs : List X) (f : ℕ → X → List (List ℤ))
    → ((i : ℕ) (x : X) → slice_get xs i ≡ Some x → AllHold a (f i x)) → AllHold a (each_of xs f)
holds-each {X} a xs f h =
    All-upto (λ c. clause_holds a c ≡ true) (length xs) (λ i. option_map_or (f i) (slice_get xs i) [])
    (λ i lt. by i (slice_get xs i) refl)
  where
    by : (i : ℕ) (o : Option X) → slice_get xs i ≡ o → AllHold a (option_map_or (f i) o [])
    by i None e = All-nil (λ c. clause_holds a c ≡ true)
    by i (Some x) e = h i x e

-- the row of x is reached from the row of s
pub reach-holds : (a : ℕ → Bool) (k : Kind) (s x r q : ℕ) → IsHot a 32 (row_var s 0) r → IsHot a 32 (row_var x 0) q
    → AllHold a (reach_clauses k s x) → reaches k r q ≡ true
reach-holds a k s x r q hs hx h =
    let here : AllHold a (reach_clause k s x r) = upto-All (λ c. clause_holds a c ≡ true) 32 (reach_clause k s x) h r hs.within in
    let at : a (row_var s r) ≡ true = ap a (sym (row-at s r)) ∙ hot-here a 32 (row_var s 0) r r hs refl in
    let rest : list_any (lit_holds a) (upto 32 (reach_lit k x r)) ≡ true =
    tail (lit_holds a (minus (row_var s r))) _ (one-holds a (minus (row_var s r) ∷ upto 32 (reach_lit k x r)) here)
    (minus-false a (row_var s r) (omega arith) at) in
    let found = upto-any (lit_holds a) 32 (reach_lit k x r) rest in
    by found.0 found.1 (reaches k r found.0) refl found.2
  where
    tail : (b c : Bool) → (b || c) ≡ true → b ≡ false → c ≡ true
    tail true c h e = cc
    tail false c h e = h

    by : (p : ℕ) → p < 32 → (b : Bool) → reaches k r p ≡ b → list_any (lit_holds a) (if b then plus_at (row_var x 0) p else []) ≡ true
        → reaches k r q ≡ true
    by p lt true e h = ap (reaches k r) (hot-is a 32 (row_var x 0) q p hx lt (one_of (a (row_var x 0 + p)) h)) ∙ e
    by p lt false e h = cc

-- and the other way round
pub holds-reach : (a : ℕ → Bool) (k : Kind) (s x r q : ℕ) → IsHot a 32 (row_var s 0) r → IsHot a 32 (row_var x 0) q → reaches k r q ≡ true
    → AllHold a (reach_clauses k s x)
holds-reach a k s x r q hs hx e =
    All-upto (λ c. clause_holds a c ≡ true) 32 (reach_clause k s x) (λ p lt.
    holds-one a (minus (row_var s p) ∷ upto 32 (reach_lit k x p)) (by p lt (cases_Bool (a (row_var s p)))))
  where
    lit : (b : Bool) → b ≡ true → list_any (lit_holds a) (if b then plus_at (row_var x 0) q else []) ≡ true
    lit true e = ap (λ v. v || false) (hot-here a 32 (row_var x 0) q q hx refl)
    lit false e = cc

    by : (p : ℕ) → p < 32 → ((a (row_var s p) ≡ true) ⊎ (a (row_var s p) ≡ false))
        → (lit_holds a (minus (row_var s p)) || list_any (lit_holds a) (upto 32 (reach_lit k x p))) ≡ true
    by p lt (inl t) =
        let same_row : r ≡ p = hot-is a 32 (row_var s 0) r p hs lt (ap a (row-at s p) ∙ t) in
        let reached : reaches k p q ≡ true = ap (λ m. reaches k m q) (sym same_row) ∙ e in
        or_right (lit_holds a (minus (row_var s p))) _
        (any-upto (lit_holds a) 32 (reach_lit k x p) q hx.within (lit (reaches k p q) reached))
    by p lt (inr f) = or_left (lit_holds a (minus (row_var s p))) _ (minus-true a (row_var s p) (omega arith) f)

-- what is known of the columns of a kind
pub record HasCols (k : Kind) (count : ℕ) : Type 0 where
  pub below : (c o : ℕ) → c < 16 → o < count → col_of k o c < 16
  pub fixed : keeps_half k ≡ false → (c o : ℕ) → col_of k o c ≡ col_of k o 0
  pub halves : keeps_half k ≡ true → (c : ℕ) → c < 16 → ((o : ℕ) → col_of k o c ≡ 2 + o) ⊎ ((o : ℕ) → col_of k o c ≡ 10 + o)

-- label y stands in the column of its outcome
pub col-holds : (a : ℕ → Bool) (k : Kind) (count s o y c d : ℕ) → HasCols k count → o < count → IsHot a 16 (col_var s 0) c
    → IsHot a 16 (col_var y 0) d → AllHold a (col_clauses k s o y) → d ≡ col_of k o c
col-holds a k count s o y c d has few hs hy h = by (keeps_half k) refl h
  where
    by : (b : Bool) → keeps_half k ≡ b
        → AllHold a (if b then upto 16 (col_clause k s o y) else one (plus (col_var y (col_of k o 0)) ∷ [])) → d ≡ col_of k o c
    by true e h =
        let here : AllHold a (col_clause k s o y c) = upto-All (λ c. clause_holds a c ≡ true) 16 (col_clause k s o y) h c hs.within in
        let at : a (col_var s c) ≡ true = ap a (sym (col-at s c)) ∙ hot-here a 16 (col_var s 0) c c hs refl in
        let there : a (col_var y (col_of k o c)) ≡ true =
        two-hold a (minus (col_var s c)) (plus (col_var y (col_of k o c))) here (minus-false a (col_var s c) (omega arith) at) in
        hot-is a 16 (col_var y 0) d (col_of k o c) hy (has.below c o hs.within few) (ap a (col-at y (col_of k o c)) ∙ there)
    by false e h =
        let there : a (col_var y (col_of k o 0)) ≡ true = unit-holds a (plus (col_var y (col_of k o 0))) h in
        hot-is a 16 (col_var y 0) d (col_of k o 0) hy (has.below 0 o (omega arith) few) (ap a (col-at y (col_of k o 0)) ∙ there)
        ∙ sym (has.fixed e c o)

-- and the other way round
pub holds-col : (a : ℕ → Bool) (k : Kind) (count s o y c d : ℕ) → HasCols k count → IsHot a 16 (col_var s 0) c
    → IsHot a 16 (col_var y 0) d → d ≡ col_of k o c → AllHold a (col_clauses k s o y)
holds-col a k count s o y c d has hs hy e = by (keeps_half k) refl
  where
    by : (b : Bool) → keeps_half k ≡ b
        → AllHold a (if b then upto 16 (col_clause k s o y) else one (plus (col_var y (col_of k o 0)) ∷ []))
    by true f = All-upto (λ c. clause_holds a c ≡ true) 16 (col_clause k s o y) (λ p lt.
        hold-two a (minus (col_var s p)) (plus (col_var y (col_of k o p))) (λ (t : lit_holds a (minus (col_var s p)) ≡ false).
        let same_col : c ≡ p = hot-is a 16 (col_var s 0) c p hs lt (ap a (col-at s p) ∙ from_not a (col_var s p) (omega arith) t) in
        ap a (sym (col-at y (col_of k o p))) ∙ hot-here a 16 (col_var y 0) d (col_of k o p) hy (e ∙ ap (col_of k o) same_col)))
    by false f = holds-unit a (plus (col_var y (col_of k o 0)))
        (ap a (sym (col-at y (col_of k o 0))) ∙ hot-here a 16 (col_var y 0) d (col_of k o 0) hy (e ∙ has.fixed f c o))

-- the labels of a test stand where its jump lands
pub record TestFits (k : Kind) (rho gam : ℕ → ℕ) (s : ℕ) (ts : List (Option ℕ)) (x : ℕ) : Type 0 where
  pub reach : reaches k (rho s) (rho x) ≡ true
  pub rows : (o y : ℕ) → slice_get ts o ≡ Some (Some y) → rho x ≡ rho y
  pub cols : (o y : ℕ) → slice_get ts o ≡ Some (Some y) → gam y ≡ col_of k o (gam s)

-- each target that is a label is below n
unfoldable pub InRange : List (Option ℕ) → ℕ → Type 0
InRange ts n = (o y : ℕ) → slice_get ts o ≡ Some (Some y) → y < n

-- the clauses of a test say where its labels stand
pub test-holds : (a : ℕ → Bool) (n : ℕ) (rho gam : ℕ → ℕ) (k : Kind) (s : ℕ) (ts : List (Option ℕ)) (e x : ℕ) → IsPlaced a n rho gam
    → HasCols k (length ts) → s < n → InRange ts n → slice_get ts e ≡ Some (Some x)
    → AllHold a (test_clauses k s ts e x) → TestFits k rho gam s ts x
unfolding InRange
test-holds a n rho gam k s ts e x p has s_in in_range first h =
    let P : List ℤ → Type 0 = λ c. clause_holds a c ≡ true in
    let x_in = in_range e x first in
    let reach : AllHold a (reach_clauses k s x) = All-append_left P (reach_clauses k s x) (each_of ts (target_clauses k s e x)) h in
    let targets : AllHold a (each_of ts (target_clauses k s e x)) =
    All-append_right P (reach_clauses k s x) (each_of ts (target_clauses k s e x)) h in
    let at : (o y : ℕ) → slice_get ts o ≡ Some (Some y)
    → AllHold a (outcome_clauses k s e x o y) = λ o y there. each-holds a ts (target_clauses k s e x) o (Some y) targets there in
    record {
      reach = reach-holds a k s x (rho s) (rho x) (p.rows s s_in) (p.rows x x_in) reach;
      rows = λ o y there. row o y there (o == e) refl (in_range o y there) x_in
          (All-append_left P (if o == e then [] else same 32 (row_var x 0) (row_var y 0)) (col_clauses k s o y) (at o y there));
      cols = λ o y there. col-holds a k (length ts) s o y (gam s) (gam y) has (slice_get_within ts o (Some y) there) (p.cols s s_in)
          (p.cols y (in_range o y there))
          (All-append_right P (if o == e then [] else same 32 (row_var x 0) (row_var y 0)) (col_clauses k s o y) (at o y there));
    }
  where
    row : (o y : ℕ) → slice_get ts o ≡ Some (Some y) → (b : Bool) → (o == e) ≡ b → y < n → x < n
        → AllHold a (if b then [] else same 32 (row_var x 0) (row_var y 0)) → rho x ≡ rho y
    row o y there true same_o y_in x_in h =
        let o_is : o ≡ e = eqb-true o e same_o in
        let both : Some (Some x) ≡ Some (Some y) = sym first ∙ ap (slice_get ts) (sym o_is) ∙ there in
        let x_is : x ≡ y = cc in
        ap rho x_is
    row o y there false same_o y_in x_in h =
        sym (hot-is a 32 (row_var y 0) (rho y) (rho x) (p.rows y y_in) (p.rows x x_in).within
        (same-holds a 32 (row_var x 0) (row_var y 0) (p.rows x x_in).above h (rho x) (p.rows x x_in).within
        (hot-here a 32 (row_var x 0) (rho x) (rho x) (p.rows x x_in) refl)))

-- and the other way round
pub holds-test : (a : ℕ → Bool) (n : ℕ) (rho gam : ℕ → ℕ) (k : Kind) (s : ℕ) (ts : List (Option ℕ)) (e x : ℕ) → IsPlaced a n rho gam
    → HasCols k (length ts) → s < n → InRange ts n → x < n
    → TestFits k rho gam s ts x → AllHold a (test_clauses k s ts e x)
unfolding InRange
holds-test a n rho gam k s ts e x p has s_in in_range x_in fits =
    let P : List ℤ → Type 0 = λ c. clause_holds a c ≡ true in
    All-append P (reach_clauses k s x) (each_of ts (target_clauses k s e x))
    (holds-reach a k s x (rho s) (rho x) (p.rows s s_in) (p.rows x x_in) fits.reach)
    (holds-each a ts (target_clauses k s e x) target)
  where
    rows : (y : ℕ) → y < n → rho x ≡ rho y → (b : Bool) → AllHold a (if b then [] else same 32 (row_var x 0) (row_var y 0))
    rows y y_in same_row true = All-nil (λ c. clause_holds a c ≡ true)
    rows y y_in same_row false = holds-same a 32 (row_var x 0) (row_var y 0) (p.rows x x_in).above (λ q lt h.
        hot-here a 32 (row_var y 0) (rho y) q (p.rows y y_in) (sym same_row ∙ hot-is a 32 (row_var x 0) (rho x) q (p.rows x x_in) lt h))

    target : (o : ℕ) (t : Option ℕ) → slice_get ts o ≡ Some t → AllHold a (target_clauses k s e x o t)
    target o None there = All-nil (λ c. clause_holds a c ≡ true)
    target o (Some y) there =
        All-append (λ c. clause_holds a c ≡ true) (if o == e then [] else same 32 (row_var x 0) (row_var y 0)) (col_clauses k s o y)
        (rows y (in_range o y there) (fits.rows o y there) (o == e))
        (holds-col a k (length ts) s o y (gam s) (gam y) has (p.cols s s_in) (p.cols y (in_range o y there)) (fits.cols o y there))
