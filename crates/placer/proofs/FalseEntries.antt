-- The entries that make literals false, and the levels of entries.

use Rattle.std.proofs.Common.{◌≡◌, ◌≢◌, ℕ, ℤ, zero, suc, ◌<◌, ◌≤◌, ◌==◌, Bool, true, false, not, List, [], ◌∷◌, length, get_or, take, Some, None, refl, sym, ap, subst, ◌∙◌, arith}
use Rattle.std.specs.Prelude.{slice_get, neg_ℤ}
use Rattle.std.specs.Bool.{if◌then◌else◌}
use Rattle.std.specs.Option.{option_map}
use Rattle.std.proofs.lemmas.Bool.{eqb-true, eqb-false, eq-eqb}
use Rattle.std.proofs.lemmas.List.{length-take-le, get_or-take}
use Rattle.std.proofs.lemmas.Option.{slice_get-get_or, slice_get_within, get_or_from_slice_get, same_Some}
use Rattle.clause_base.specs.Lit.{var_of, is_positive}
use Rattle.clause_base.specs.Truth.{lits_of, sign_in}
use Rattle.clause_base.specs.declared.entry.Entry.{Entry}
use Rattle.clause_base.proofs.LiteralLemmas.{sign_none_first}
use Rattle.trail.specs.Assignment.{value_of, sign_of, level_of, IsTrail, IsLevelled}
use Rattle.trail.proofs.Levels.{level-below}
use Rattle.propagate.proofs.Values.{value_one_false}
use Rattle.placer.specs.Learning.{level_at}

-- an entry makes the literal false
pub record IsNegatedBy (es : List Entry) (z : ℤ) : Type 0 where
  pub place : ℕ
  pub entry : Entry
  pub there : slice_get es place ≡ Some entry
  pub is : z ≡ neg_ℤ entry.lit

-- a false literal is the negation of an entry's
pub false_entry : (z : ℤ) (es : List Entry) → ((i : ℕ) (e : Entry) → slice_get es i ≡ Some e → 0 < var_of e.lit)
    → value_of z es ≡ Some false → IsNegatedBy es z
false_entry z [] above h = cc
false_entry z (e ∷ es) above h = by (var_of e.lit == var_of z) refl (λ v. false_entry z es (λ i d there. above (suc i) d there) v) h
  where
    by : (b : Bool) → (var_of e.lit == var_of z) ≡ b → (value_of z es ≡ Some false → IsNegatedBy es z)
        → option_map (λ s. if is_positive z then s else not s)
        (if b then Some (is_positive e.lit) else sign_of (var_of z) es) ≡ Some false → IsNegatedBy (e ∷ es) z
    by true t rest v =
        let one : value_of z (e ∷ []) ≡ Some false =
        ap (λ b. option_map (λ s. if is_positive z then s else not s) (if b then Some (is_positive e.lit) else None)) t ∙ v in
        record { place = 0; entry = e; there = refl; is = value_one_false z e (above 0 e refl) one }
    by false t rest v =
        let r : IsNegatedBy es z = rest v in
        record { place = suc r.place; entry = r.entry; there = r.there; is = r.is }

-- an entry among the first is one
pub take_entry : (es : List Entry) (n i : ℕ) (e : Entry) → n ≤ length es → slice_get (take n es) i ≡ Some e
    → (i < n) × (slice_get es i ≡ Some e)
take_entry es n i e le h =
    let within : i < length (take n es) = slice_get_within (take n es) i e h in
    let size : length (take n es) ≡ n = length-take-le n es le in
    let lt : i < n = omega arith in
    let is : get_or (take n es) i e ≡ e = get_or_from_slice_get (take n es) i e e h in
    (lt, slice_get-get_or es i e (omega arith) ∙ ap Some (sym (get_or-take n es i e lt) ∙ is))

-- the level of an entry's variable
pub level_there : (es : List Entry) (i : ℕ) (e : Entry)
    → ((i : ℕ) (e : Entry) → slice_get es i ≡ Some e → sign_of (var_of e.lit) (take i es) ≡ None) → slice_get es i ≡ Some e
    → level_at (var_of e.lit) es ≡ e.level
level_there [] i e fresh there = cc
level_there (x ∷ es) zero e fresh there =
    let same : x ≡ e = same_Some x e there in
    ap (λ b. if b then x.level else level_at (var_of e.lit) es)
    (eq-eqb (var_of x.lit) (var_of e.lit) (ap (λ (y : Entry). var_of y.lit) same)) ∙ ap (λ (y : Entry). y.level) same
level_there (x ∷ es) (suc i) e fresh there =
    let none : sign_in (var_of e.lit) (x.lit ∷ lits_of (take i es)) ≡ None = fresh (suc i) e there in
    let other : var_of x.lit ≡ var_of e.lit → ⊥ = (sign_none_first (var_of e.lit) x.lit (lits_of (take i es)) none).0 in
    let no : (var_of x.lit == var_of e.lit) ≡ false = by (var_of x.lit == var_of e.lit) refl other in
    ap (λ b. if b then x.level else level_at (var_of e.lit) es) no
    ∙ level_there es i e (λ k d at. (sign_none_first (var_of d.lit) x.lit (lits_of (take k es)) (fresh (suc k) d at)).1) there
  where
    by : (b : Bool) → (var_of x.lit == var_of e.lit) ≡ b → (var_of x.lit ≡ var_of e.lit → ⊥) → b ≡ false
    by true t other = absurd (other (eqb-true (var_of x.lit) (var_of e.lit) t))
    by false t other = refl

-- the level of an entry is at most the present one
pub level_most : (vars : ℕ) (es : List Entry) → IsTrail vars es → (i : ℕ) (e : Entry) → slice_get es i ≡ Some e → e.level ≤ level_of es
level_most vars es t i e there =
    subst (λ (x : Entry). x.level ≤ level_of es) (get_or_from_slice_get es i e e there)
    (level-below vars es t i e (slice_get_within es i e there))

-- levels never fall
pub level_rises : (es : List Entry) → IsLevelled es → (i j : ℕ) (d e : Entry) → i < j → slice_get es i ≡ Some d → slice_get es j ≡ Some e
    → d.level ≤ e.level
level_rises es l i j d e lt at there =
    let within : j < length es = slice_get_within es j e there in
    let le : (get_or es i d).level ≤ (get_or es j d).level = l.rising i j d lt within in
    subst (λ (x : Entry). x.level ≤ e.level) (get_or_from_slice_get es i d d at)
    (subst (λ (x : Entry). (get_or es i d).level ≤ x.level) (get_or_from_slice_get es j e d there) le)

-- an entry after one of the same level above 0 is implied
pub implied_after : (es : List Entry) → IsLevelled es → (i j : ℕ) (d e : Entry) → i < j → slice_get es i ≡ Some d
    → slice_get es j ≡ Some e → d.level ≡ e.level → 0 < e.level → 0 < e.reason
implied_after es l i j d e lt at there same above = by (e.reason == 0) refl
  where
    within : j < length es
    within = slice_get_within es j e there

    size : length (take j es) ≡ j
    size = let low : j < length es = within in length-take-le j es (omega arith)

    early : (e.reason ≡ 0) → ⊥
    early decision =
        let front : length (take j es) ≡ j = size in
        let lt_front : i < length (take j es) = omega arith in
        let is : get_or (take j es) i d ≡ d = get_or-take j es i d lt ∙ get_or_from_slice_get es i d d at in
        let ne : (get_or (take j es) i d).level ≢ e.level = (l.begun j e there above).0 decision i d lt_front in
        ne (ap (λ (x : Entry). x.level) is ∙ same)

    by : (b : Bool) → (e.reason == 0) ≡ b → 0 < e.reason
    by true t = absurd (early (eqb-true e.reason 0 t))
    by false t = let ne : e.reason ≢ 0 = eqb-false e.reason 0 t in omega arith
