-- The clauses of a given cell, and of the row bound.
use Rattle.std.proofs.Common.{◌≡◌, ℕ, ℤ, ◌+◌, ◌-◌, ◌<◌, inl, inr, Bool, true, List, [], ◌∷◌, refl, sym, ap, subst, ◌∙◌, arith}
use Rattle.std.proofs.lemmas.List.Elements.{All-append}
use Rattle.std.proofs.lemmas.Bool.{cases_lt}
use Rattle.clause_base.specs.TruthValues.{clause_holds, AllHold}
use Rattle.placement_clauses.specs.Number.{plus, minus, row_var, col_var}
use Rattle.placement_clauses.specs.Shape.{one}
use Rattle.placement_clauses.specs.Clauses.{at_clauses, bound_clauses}
use Rattle.clause_base.proofs.ListLemmas.{All-append_left, All-append_right}
use Rattle.placement_clauses.proofs.UptoLemmas.{All-upto, upto-All}
use Rattle.placement_clauses.proofs.TruthLemmas.{IsHot, hot-here, hot-is, unit-holds, holds-unit, from_minus, to_minus}
use Rattle.placement_clauses.proofs.PlacedLemmas.{row-at, col-at}

-- a label has the cell that its two clauses say
pub at-holds : (a : ℕ → Bool) (i r c x y : ℕ) → IsHot a 32 (row_var i 0) x → IsHot a 16 (col_var i 0) y → r < 32 → c < 16
    → AllHold a (at_clauses i r c) → (x ≡ r) × (y ≡ c)
at-holds a i r c x y hx hy r_in c_in h =
    let P : List ℤ → Type 0 = λ c. clause_holds a c ≡ true in
    let first : AllHold a (one (plus (row_var i r) ∷ [])) =
    All-append_left P (one (plus (row_var i r) ∷ [])) (one (plus (col_var i c) ∷ [])) h in
    let second : AllHold a (one (plus (col_var i c) ∷ [])) =
    All-append_right P (one (plus (row_var i r) ∷ [])) (one (plus (col_var i c) ∷ [])) h in (
      hot-is a 32 (row_var i 0) x r hx r_in (ap a (row-at i r) ∙ unit-holds a (plus (row_var i r)) first),
      hot-is a 16 (col_var i 0) y c hy c_in (ap a (col-at i c) ∙ unit-holds a (plus (col_var i c)) second),
    )

-- the row of a label is below the bound
pub bound-holds : (a : ℕ → Bool) (rows i x : ℕ) → IsHot a 32 (row_var i 0) x → AllHold a (bound_clauses rows i) → x < rows
bound-holds a rows i x hx h =
    elim (cases_lt x rows) as (λ _. x < rows) [
      | inl below ↦ below
      | inr above ↦
          let in32 : x < 32 = hx.within in
          let k = x - rows in
          let at : rows + (x - rows) ≡ x = omega arith in
          let here : AllHold a (one (minus (row_var i (rows + (x - rows))) ∷ [])) =
          upto-All (λ c. clause_holds a c ≡ true) (32 - rows) (λ k. one (minus (row_var i (rows + k)) ∷ [])) h (x - rows)
          (omega arith) in
          let there : AllHold a (one (minus (row_var i x) ∷ [])) = subst (λ m. AllHold a (one (minus (row_var i m) ∷ []))) at here in
          absurd (from_minus a (row_var i x) (omega arith) (unit-holds a (minus (row_var i x)) there)
          (ap a (sym (row-at i x)) ∙ hot-here a 32 (row_var i 0) x x hx refl))
    ]

-- a label at its cell makes its two clauses true
pub holds-at : (a : ℕ → Bool) (i r c x y : ℕ) → IsHot a 32 (row_var i 0) x → IsHot a 16 (col_var i 0) y → x ≡ r → y ≡ c
    → AllHold a (at_clauses i r c)
holds-at a i r c x y hx hy e f = All-append (λ c. clause_holds a c ≡ true) (one (plus (row_var i r) ∷ [])) (one (plus (col_var i c) ∷ []))
    (holds-unit a (plus (row_var i r)) (ap a (sym (row-at i r)) ∙ hot-here a 32 (row_var i 0) x r hx e))
    (holds-unit a (plus (col_var i c)) (ap a (sym (col-at i c)) ∙ hot-here a 16 (col_var i 0) y c hy f))

-- a label in a row below the bound makes its clauses true
pub holds-bound : (a : ℕ → Bool) (rows i x : ℕ) → IsHot a 32 (row_var i 0) x → x < rows → AllHold a (bound_clauses rows i)
holds-bound a rows i x hx lt =
    All-upto (λ c. clause_holds a c ≡ true) (32 - rows) (λ k. one (minus (row_var i (rows + k)) ∷ [])) (λ k k_in.
    holds-unit a (minus (row_var i (rows + k))) (to_minus a (row_var i (rows + k)) (omega arith) (λ (t : a (row_var i (rows + k)) ≡ true).
    let e : x ≡ rows + k = hot-is a 32 (row_var i 0) x (rows + k) hx (omega arith) (ap a (row-at i (rows + k)) ∙ t) in
    absurd (omega arith))))
