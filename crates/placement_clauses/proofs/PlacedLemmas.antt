-- What the clauses say of rows and columns. The row of label i is rho i, its column gam i.
use Rattle.std.proofs.Common.{◌≡◌, ◌≢◌, ℕ, ℤ, ◌+◌, ◌<◌, ◌⊎◌, inl, inr, Bool, true, false, ◌&&◌, List, ◌++◌, refl, sym, ap, ◌∙◌, arith}
use Rattle.std.specs.Prelude.{◌==◌, nat_lt}
use Rattle.std.proofs.lemmas.List.Elements.{All-append}
use Rattle.std.proofs.lemmas.Bool.{cases_Bool, cases_lt, eqb-true, eq-eqb, and_parts, and_from, ltb-true, lt-ltb}
use Rattle.clause_base.specs.TruthValues.{lit_holds, clause_holds, AllHold}
use Rattle.placement_clauses.specs.Number.{plus, minus, row_var, col_var, differ_var, way_var}
use Rattle.placement_clauses.specs.Shape.{one, any_of, no_two, apart_unless}
use Rattle.placement_clauses.specs.Clauses.{cell_clauses, apart_clauses, cell_class, apart_class, apart_from_earlier, goto_clauses}
use Rattle.clause_base.proofs.ListLemmas.{All-append_left, All-append_right}
use Rattle.placement_clauses.proofs.UptoLemmas.{All-upto, upto-All}
use Rattle.placement_clauses.proofs.GotoPieces.{goto_some, goto_cols, goto_zero, goto_low, goto_rows, before_zero, before_low, before_rows}
use Rattle.placement_clauses.proofs.TruthLemmas.{IsHot, hot-here, hot-is, hot-from, hot-any, hot-no_two, apart-holds, holds-apart, same_where-holds, holds-same_where, two-hold, hold-two, three-hold, hold-three, minus-false, from_minus, from_not, to_minus}

-- each label has one row and one column
pub record IsPlaced (a : ℕ → Bool) (n : ℕ) (rho gam : ℕ → ℕ) : Type 0 where
  pub rows : (i : ℕ) → i < n → IsHot a 32 (row_var i 0) (rho i)
  pub cols : (i : ℕ) → i < n → IsHot a 16 (col_var i 0) (gam i)

-- class 1
pub cell-holds : (a : ℕ → Bool) (i : ℕ) → AllHold a (cell_clauses i)
    → ((r : ℕ) × IsHot a 32 (row_var i 0) r) × ((c : ℕ) × IsHot a 16 (col_var i 0) c)
unfolding cell_clauses
cell-holds a i h =
    let P : List ℤ → Type 0 = λ c. clause_holds a c ≡ true in
    let rows : List (List ℤ) = one (any_of 32 (row_var i 0)) in
    let cols : List (List ℤ) = one (any_of 16 (col_var i 0)) in
    let front : AllHold a ((rows ++ cols) ++ no_two 32 (row_var i 0)) =
    All-append_left P ((rows ++ cols) ++ no_two 32 (row_var i 0)) (no_two 16 (col_var i 0)) h in
    let both : AllHold a (rows ++ cols) = All-append_left P (rows ++ cols) (no_two 32 (row_var i 0)) front in (
      hot-from a 32 (row_var i 0) (omega arith) (All-append_left P rows cols both)
          (All-append_right P (rows ++ cols) (no_two 32 (row_var i 0)) front),
      hot-from a 16 (col_var i 0) (omega arith) (All-append_right P rows cols both)
          (All-append_right P ((rows ++ cols) ++ no_two 32 (row_var i 0)) (no_two 16 (col_var i 0)) h),
    )

-- and the other way round
pub holds-cell : (a : ℕ → Bool) (i r c : ℕ) → IsHot a 32 (row_var i 0) r → IsHot a 16 (col_var i 0) c → AllHold a (cell_clauses i)
unfolding cell_clauses
holds-cell a i r c h k =
    let P : List ℤ → Type 0 = λ c. clause_holds a c ≡ true in
    let rows : List (List ℤ) = one (any_of 32 (row_var i 0)) in
    let cols : List (List ℤ) = one (any_of 16 (col_var i 0)) in
    All-append P (rows ++ cols ++ no_two 32 (row_var i 0)) (no_two 16 (col_var i 0))
    (All-append P (rows ++ cols) (no_two 32 (row_var i 0))
    (All-append P rows cols (hot-any a 32 (row_var i 0) r h) (hot-any a 16 (col_var i 0) c k)) (hot-no_two a 32 (row_var i 0) r h))
    (hot-no_two a 16 (col_var i 0) c k)

-- class 1 says that each label has one row and one column
pub cell_class-holds : (a : ℕ → Bool) (n : ℕ) → AllHold a (cell_class n) → (i : ℕ) → i < n
    → ((r : ℕ) × IsHot a 32 (row_var i 0) r) × ((c : ℕ) × IsHot a 16 (col_var i 0) c)
cell_class-holds a n h i lt = cell-holds a i (upto-All (λ c. clause_holds a c ≡ true) n cell_clauses h i lt)

-- and the other way round
pub holds-cell_class : (a : ℕ → Bool) (n : ℕ) (rho gam : ℕ → ℕ) → IsPlaced a n rho gam → AllHold a (cell_class n)
holds-cell_class a n rho gam h =
    All-upto (λ c. clause_holds a c ≡ true) n cell_clauses (λ i lt. holds-cell a i (rho i) (gam i) (h.rows i lt) (h.cols i lt))

-- class 2
pub apart-differ : (a : ℕ → Bool) (n j i ri ci rj cj : ℕ) → IsHot a 32 (row_var i 0) ri → IsHot a 16 (col_var i 0) ci
    → IsHot a 32 (row_var j 0) rj → IsHot a 16 (col_var j 0) cj
    → AllHold a (apart_clauses n j i) → (a (differ_var n i j) ≡ true → ri ≢ rj) × (a (differ_var n i j) ≡ false → ci ≢ cj)
unfolding apart_clauses
apart-differ a n j i ri ci rj cj hri hci hrj hcj h =
    let P : List ℤ → Type 0 = λ c. clause_holds a c ≡ true in
    let d = differ_var n i j in
    let rows : AllHold a (apart_unless (minus d) 32 (row_var i 0) (row_var j 0)) =
    All-append_left P (apart_unless (minus d) 32 (row_var i 0) (row_var j 0)) (apart_unless (plus d) 16 (col_var i 0) (col_var j 0))
    h in
    let cols : AllHold a (apart_unless (plus d) 16 (col_var i 0) (col_var j 0)) =
    All-append_right P (apart_unless (minus d) 32 (row_var i 0) (row_var j 0)) (apart_unless (plus d) 16 (col_var i 0) (col_var j 0))
    h in (
      (λ (t : a d ≡ true) (e : ri ≡ rj). apart-holds a (minus d) 32 (row_var i 0) (row_var j 0) hri.above hrj.above rows
          (minus-false a d (omega arith) t) ri hri.within (hot-here a 32 (row_var i 0) ri ri hri refl)
          (hot-here a 32 (row_var j 0) rj ri hrj (sym e))),
      (λ (f : a d ≡ false) (e : ci ≡ cj). apart-holds a (plus d) 16 (col_var i 0) (col_var j 0) hci.above hcj.above cols f ci hci.within
          (hot-here a 16 (col_var i 0) ci ci hci refl) (hot-here a 16 (col_var j 0) cj ci hcj (sym e))),
    )

-- and the other way round
pub holds-apart_clauses : (a : ℕ → Bool) (n j i ri ci rj cj : ℕ) → IsHot a 32 (row_var i 0) ri → IsHot a 16 (col_var i 0) ci
    → IsHot a 32 (row_var j 0) rj → IsHot a 16 (col_var j 0) cj
    → (a (differ_var n i j) ≡ true → ri ≢ rj) → (a (differ_var n i j) ≡ false → ci ≢ cj) → AllHold a (apart_clauses n j i)
unfolding apart_clauses
holds-apart_clauses a n j i ri ci rj cj hri hci hrj hcj rows cols =
    let d = differ_var n i j in
    All-append (λ c. clause_holds a c ≡ true) (apart_unless (minus d) 32 (row_var i 0) (row_var j 0))
    (apart_unless (plus d) 16 (col_var i 0) (col_var j 0))
    (holds-apart a (minus d) 32 (row_var i 0) (row_var j 0) hri.above hrj.above
    (λ (e : lit_holds a (minus d) ≡ false) (k : ℕ) (lt : k < 32) f g.
    rows (from_not a d (omega arith) e) (hot-is a 32 (row_var i 0) ri k hri lt f ∙ sym (hot-is a 32 (row_var j 0) rj k hrj lt g))))
    (holds-apart a (plus d) 16 (col_var i 0) (col_var j 0) hci.above hcj.above
    (λ (e : lit_holds a (plus d) ≡ false) (k : ℕ) (lt : k < 16) f g.
    cols e (hot-is a 16 (col_var i 0) ci k hci lt f ∙ sym (hot-is a 16 (col_var j 0) cj k hcj lt g))))

-- what D says of two labels
pub record Differ (a : ℕ → Bool) (n : ℕ) (rho gam : ℕ → ℕ) (i j : ℕ) : Type 0 where
  pub rows : a (differ_var n i j) ≡ true → rho i ≢ rho j
  pub cols : a (differ_var n i j) ≡ false → gam i ≢ gam j

-- class 2 says of two labels what their variable means
pub apart_class-holds : (a : ℕ → Bool) (n : ℕ) (rho gam : ℕ → ℕ) → IsPlaced a n rho gam → AllHold a (apart_class n) → (i j : ℕ) → i < j
    → j < n → Differ a n rho gam i j
apart_class-holds a n rho gam p h i j lt below =
    let row : AllHold a (apart_from_earlier n j) = upto-All (λ c. clause_holds a c ≡ true) n (apart_from_earlier n) h j below in
    let here : AllHold a (apart_clauses n j i) = upto-All (λ c. clause_holds a c ≡ true) j (apart_clauses n j) row i lt in
    let within : i < n = omega arith in
    let r = apart-differ a n j i (rho i) (gam i) (rho j) (gam j) (p.rows i within) (p.cols i within) (p.rows j below) (p.cols j below)
    here in record { rows = r.0; cols = r.1 }

-- and the other way round
pub holds-apart_class : (a : ℕ → Bool) (n : ℕ) (rho gam : ℕ → ℕ) → IsPlaced a n rho gam
    → ((i j : ℕ) → i < j → j < n → Differ a n rho gam i j) → AllHold a (apart_class n)
holds-apart_class a n rho gam p h =
    All-upto (λ c. clause_holds a c ≡ true) n (apart_from_earlier n)
    (λ j below. All-upto (λ c. clause_holds a c ≡ true) j (apart_clauses n j) (λ i lt.
    let within : i < n = omega arith in
    let d = h i j lt below in
    holds-apart_clauses a n j i (rho i) (gam i) (rho j) (gam j) (p.rows i within) (p.cols i within) (p.rows j below) (p.cols j below)
    d.rows d.cols))

-- two labels whose rows and columns are the same are one
pub differ-apart : (a : ℕ → Bool) (n : ℕ) (rho gam : ℕ → ℕ) (i j : ℕ) → Differ a n rho gam i j → rho i ≡ rho j → gam i ≡ gam j → ⊥
differ-apart a n rho gam i j d e f = elim (cases_Bool (a (differ_var n i j))) as (λ _. ⊥) [ inl t ↦ d.rows t e | inr t ↦ d.cols t f ]

-- goto
unfoldable pub GotoFits : (ℕ → ℕ) → (ℕ → ℕ) → ℕ → ℕ → Type 0
GotoFits rho gam s m = (gam s ≡ gam m) ⊎ (((rho m ≡ 0) × (gam m < 15)) ⊎ (rho s ≡ rho m))

-- the row variables are a run
pub row-at : (m r : ℕ) → row_var m 0 + r ≡ row_var m r
row-at m r = omega arith

-- the column variables are a run
pub col-at : (m c : ℕ) → col_var m 0 + c ≡ col_var m c
col-at m c = omega arith

-- the clauses of `goto` say where its target stands
pub goto-holds : (a : ℕ → Bool) (n : ℕ) (rho gam : ℕ → ℕ) (s m : ℕ) → IsHot a 32 (row_var s 0) (rho s) → IsHot a 16 (col_var s 0) (gam s)
    → IsHot a 32 (row_var m 0) (rho m) → IsHot a 16 (col_var m 0) (gam m)
    → AllHold a (goto_clauses n s m) → GotoFits rho gam s m
unfolding GotoFits
goto-holds a n rho gam s m hrs hcs hrm hcm h =
    let P : List ℤ → Type 0 = λ c. clause_holds a c ≡ true in
    let g0 = way_var n s 0 in
    let g1 = way_var n s 1 in
    let g2 = way_var n s 2 in
    let to_rows : AllHold a (before_rows n s m) = All-append_left P (before_rows n s m) (goto_rows n s m) h in
    let to_low : AllHold a (before_low n s m) = All-append_left P (before_low n s m) (goto_low n s m) to_rows in
    let to_zero : AllHold a (before_zero n s m) = All-append_left P (before_zero n s m) (goto_zero n s m) to_low in
    let is_some : AllHold a (goto_some n s) = All-append_left P (goto_some n s) (goto_cols n s m) to_zero in
    let is_cols : AllHold a (goto_cols n s m) = All-append_right P (goto_some n s) (goto_cols n s m) to_zero in
    let is_zero : AllHold a (goto_zero n s m) = All-append_right P (before_zero n s m) (goto_zero n s m) to_low in
    let is_low : AllHold a (goto_low n s m) = All-append_right P (before_low n s m) (goto_low n s m) to_rows in
    let is_rows : AllHold a (goto_rows n s m) = All-append_right P (before_rows n s m) (goto_rows n s m) h in
    elim (cases_Bool (a g0)) as (λ _. (gam s ≡ gam m) ⊎ (((rho m ≡ 0) × (gam m < 15)) ⊎ (rho s ≡ rho m))) [
      | inl t ↦ inl (sym (hot-is a 16 (col_var m 0) (gam m) (gam s) hcm hcs.within
          (same_where-holds a g0 16 (col_var s 0) (col_var m 0) (omega arith) hcs.above is_cols t (gam s) hcs.within
          (hot-here a 16 (col_var s 0) (gam s) (gam s) hcs refl))))
      | inr f ↦ elim (cases_Bool (a g1)) as (λ _. (gam s ≡ gam m) ⊎ (((rho m ≡ 0) × (gam m < 15)) ⊎ (rho s ≡ rho m))) [
        | inl t ↦
            let at_row : a (row_var m 0) ≡ true = two-hold a (minus g1) (plus (row_var m 0)) is_zero (minus-false a g1 (omega arith) t) in
            let at_zero : row_var m 0 + 0 ≡ row_var m 0 = omega arith in
            let is0 : rho m ≡ 0 = hot-is a 32 (row_var m 0) (rho m) 0 hrm (omega arith) (ap a at_zero ∙ at_row) in
            let not15 : gam m ≡ 15
            → ⊥ = λ (e : gam m ≡ 15). from_minus a (col_var m 15) (omega arith)
            (two-hold a (minus g1) (minus (col_var m 15)) is_low (minus-false a g1 (omega arith) t))
            (ap a (sym (col-at m 15)) ∙ hot-here a 16 (col_var m 0) (gam m) 15 hcm e) in
            let in16 : gam m < 16 = hcm.within in
            inr (inl (is0, below15 (gam m) in16 not15))
        | inr f1 ↦
            let t : a g2 ≡ true = three-hold a (plus g0) (plus g1) (plus g2) is_some f f1 in
            inr (inr (sym (hot-is a 32 (row_var m 0) (rho m) (rho s) hrm hrs.within
            (same_where-holds a g2 32 (row_var s 0) (row_var m 0) (omega arith) hrs.above is_rows t (rho s) hrs.within
            (hot-here a 32 (row_var s 0) (rho s) (rho s) hrs refl)))))
      ]
    ]
  where
    below15 : (x : ℕ) → x < 16 → (x ≡ 15 → ⊥) → x < 15
    below15 x lt ne = elim (cases_lt x 15) as (λ _. x < 15) [ inl h ↦ h | inr h ↦ absurd (ne (omega arith)) ]

-- and the other way round
pub holds-goto : (a : ℕ → Bool) (n : ℕ) (rho gam : ℕ → ℕ) (s m : ℕ) → IsHot a 32 (row_var s 0) (rho s) → IsHot a 16 (col_var s 0) (gam s)
    → IsHot a 32 (row_var m 0) (rho m) → IsHot a 16 (col_var m 0) (gam m)
    → a (way_var n s 0) ≡ (gam s == gam m) → a (way_var n s 1) ≡ ((rho m == 0) && nat_lt (gam m) 15)
    → a (way_var n s 2) ≡ (rho s == rho m)
    → GotoFits rho gam s m → AllHold a (goto_clauses n s m)
unfolding GotoFits
holds-goto a n rho gam s m hrs hcs hrm hcm e0 e1 e2 fits =
    let P : List ℤ → Type 0 = λ c. clause_holds a c ≡ true in
    let g0 = way_var n s 0 in
    let g1 = way_var n s 1 in
    let g2 = way_var n s 2 in
    All-append P (before_rows n s m) (goto_rows n s m)
    (All-append P (before_low n s m) (goto_low n s m)
    (All-append P (before_zero n s m) (goto_zero n s m) (All-append P (goto_some n s) (goto_cols n s m)
    (hold-three a (plus g0) (plus g1) (plus g2) (λ (f0 : a g0 ≡ false) (f1 : a g1 ≡ false). e2 ∙ last f0 f1 fits))
    (holds-same_where a g0 16 (col_var s 0) (col_var m 0) (omega arith) hcs.above (λ t k lt h.
    hot-here a 16 (col_var m 0) (gam m) k hcm
    (sym (eqb-true (gam s) (gam m) (sym e0 ∙ t)) ∙ hot-is a 16 (col_var s 0) (gam s) k hcs lt h))))
    (hold-two a (minus g1) (plus (row_var m 0)) (λ (f : lit_holds a (minus g1) ≡ false).
    let parts = and_parts (rho m == 0) (nat_lt (gam m) 15) (sym e1 ∙ from_not a g1 (omega arith) f) in
    let at_zero : row_var m 0 + 0 ≡ row_var m 0 = omega arith in
    ap a (sym at_zero) ∙ hot-here a 32 (row_var m 0) (rho m) 0 hrm (eqb-true (rho m) 0 parts.0))))
    (hold-two a (minus g1) (minus (col_var m 15)) (λ (f : lit_holds a (minus g1) ≡ false).
    let parts = and_parts (rho m == 0) (nat_lt (gam m) 15) (sym e1 ∙ from_not a g1 (omega arith) f) in
    let low : gam m < 15 = ltb-true (gam m) 15 parts.1 in
    to_minus a (col_var m 15) (omega arith) (λ (t : a (col_var m 15) ≡ true).
    let e : gam m ≡ 15 = hot-is a 16 (col_var m 0) (gam m) 15 hcm (omega arith) (ap a (col-at m 15) ∙ t) in absurd (omega arith)))))
    (holds-same_where a g2 32 (row_var s 0) (row_var m 0) (omega arith) hrs.above (λ t k lt h.
    hot-here a 32 (row_var m 0) (rho m) k hrm
    (sym (eqb-true (rho s) (rho m) (sym e2 ∙ t)) ∙ hot-is a 32 (row_var s 0) (rho s) k hrs lt h)))
  where
    last : a (way_var n s 0) ≡ false → a (way_var n s 1) ≡ false → (gam s ≡ gam m) ⊎ (((rho m ≡ 0) × (gam m < 15)) ⊎ (rho s ≡ rho m))
        → (rho s == rho m) ≡ true
    last f0 f1 (inl e) = let t : true ≡ false = sym (eq-eqb (gam s) (gam m) e) ∙ sym e0 ∙ f0 in cc
    last f0 f1 (inr (inl p)) = let t : true ≡ false =
        sym (and_from (rho m == 0) (nat_lt (gam m) 15) (eq-eqb (rho m) 0 p.0) (lt-ltb (gam m) 15 p.1)) ∙ sym e1 ∙ f1 in cc
    last f0 f1 (inr (inr e)) = eq-eqb (rho s) (rho m) e
