-- The clause of the negations of entries that pass a test.

use Rattle.std.proofs.Common.{◌≡◌, ℕ, ℤ, zero, suc, ◌<◌, Bool, true, false, ◌==◌, List, [], ◌∷◌, ◌++◌, length, get_or, Some, None, map, refl, sym, ap, subst, ◌∙◌, ⊎_elim, arith}
use Rattle.std.specs.Prelude.{slice_get, neg_ℤ, flat_map, Contains, All}
use Rattle.std.specs.Bool.{if◌then◌else◌}
use Rattle.std.proofs.lemmas.Bool.{ne_eqb}
use Rattle.std.proofs.lemmas.List.Elements.{All-nil, All-cons, Contains-append_left, Contains-append_right, Contains-append_cases}
use Rattle.std.proofs.lemmas.Option.{same_Some}
use Rattle.clause_base.specs.Lit.{var_of, is_positive}
use Rattle.clause_base.specs.Truth.{lits_of, sign_in}
use Rattle.clause_base.specs.declared.entry.Entry.{Entry}
use Rattle.clause_base.proofs.LiteralLemmas.{var_neg, neg_neg, sign_none_first}
use Rattle.trail.specs.Assignment.{sign_of}
use Rattle.placer.specs.Marking.{negation_if}
use Rattle.placer.proofs.Signs.{AreApart}
use Rattle.placer.proofs.MarkedRun.{part_of}
use Rattle.placer.proofs.FlagRun.{flagged}

-- what holds of each
pub all_kept : (k : ℕ → Bool) (P : ℤ → Type 0) (es : List Entry)
    → ((i : ℕ) (e : Entry) → slice_get es i ≡ Some e → k (var_of e.lit) ≡ true → P (neg_ℤ e.lit)) → All P (flat_map (negation_if k) es)
all_kept k P [] h = All-nil P
all_kept k P (e ∷ es) h = by (k (var_of e.lit)) refl (all_kept k P es (λ i d there. h (suc i) d there))
  where
    by : (b : Bool) → k (var_of e.lit) ≡ b → All P (flat_map (negation_if k) es)
        → All P ((if b then neg_ℤ e.lit ∷ [] else []) ++ flat_map (negation_if k) es)
    by true t r = All-cons P (neg_ℤ e.lit) (flat_map (negation_if k) es) (h 0 e refl t) r
    by false t r = r

-- each is there
pub kept_there : (k : ℕ → Bool) (es : List Entry) (i : ℕ) (e : Entry) → slice_get es i ≡ Some e → k (var_of e.lit) ≡ true
    → Contains (flat_map (negation_if k) es) (neg_ℤ e.lit)
kept_there k [] i e there h = cc
kept_there k (x ∷ es) zero e there h =
    let same : x ≡ e = same_Some x e there in
    let one : Contains (neg_ℤ x.lit ∷ []) (neg_ℤ e.lit) = let lt : 0 < length (neg_ℤ x.lit ∷ []) = omega arith in
    (0, lt, ap (λ (y : Entry). neg_ℤ y.lit) same) in
    let on : k (var_of x.lit) ≡ true = ap (λ (y : Entry). k (var_of y.lit)) same ∙ h in
    Contains-append_left (negation_if k x) (flat_map (negation_if k) es) (neg_ℤ e.lit)
    (subst (λ (b : Bool). Contains (if b then neg_ℤ x.lit ∷ [] else []) (neg_ℤ e.lit)) (sym on) one)
kept_there k (x ∷ es) (suc i) e there h =
    Contains-append_right (negation_if k x) (flat_map (negation_if k) es) (neg_ℤ e.lit) (kept_there k es i e there h)

-- an entry that passes gives the literal
pub record IsFromKept (k : ℕ → Bool) (es : List Entry) (z : ℤ) : Type 0 where
  pub place : ℕ
  pub entry : Entry
  pub there : slice_get es place ≡ Some entry
  pub passes : k (var_of entry.lit) ≡ true
  pub is : z ≡ neg_ℤ entry.lit

-- and no other is
pub there_kept : (k : ℕ → Bool) (es : List Entry) (z : ℤ) → Contains (flat_map (negation_if k) es) z → IsFromKept k es z
there_kept k [] z h = let lt : h.0 < length {A = ℤ} [] = h.1 in absurd (omega arith)
there_kept k (e ∷ es) z h = ⊎_elim
    (λ (here : Contains (negation_if k e) z). first (k (var_of e.lit)) refl here)
    (λ (later : Contains (flat_map (negation_if k) es) z). more (there_kept k es z later))
    (Contains-append_cases (negation_if k e) (flat_map (negation_if k) es) z h)
  where
    first : (b : Bool) → k (var_of e.lit) ≡ b → Contains (if b then neg_ℤ e.lit ∷ [] else []) z → IsFromKept k (e ∷ es) z
    first true t i =
        let zero_there : i.0 ≡ 0 = let lt : i.0 < length (neg_ℤ e.lit ∷ []) = i.1 in omega arith in
        record {
          place = 0;
          entry = e;
          there = refl;
          passes = t;
          is = sym (sym (ap (λ n. get_or (neg_ℤ e.lit ∷ []) n z) zero_there) ∙ i.2);
        }
    first false t i = let lt : i.0 < length {A = ℤ} [] = i.1 in absurd (omega arith)

    more : IsFromKept k es z → IsFromKept k (e ∷ es) z
    more r = record { place = suc r.place; entry = r.entry; there = r.there; passes = r.passes; is = r.is }

-- a variable with no sign has none among the kept
none_kept : (k : ℕ → Bool) (v : ℕ) (es : List Entry) → sign_of v es ≡ None → sign_in v (flat_map (negation_if k) es) ≡ None
none_kept k v [] h = refl
none_kept k v (e ∷ es) h = by (k (var_of e.lit)) (none_kept k v es (sign_none_first v e.lit (lits_of es) h).1)
  where
    by : (p : Bool) → sign_in v (flat_map (negation_if k) es) ≡ None
        → sign_in v ((if p then neg_ℤ e.lit ∷ [] else []) ++ flat_map (negation_if k) es) ≡ None
    by true r =
        let no : (var_of (neg_ℤ e.lit) == v) ≡ false =
        ne_eqb (var_of (neg_ℤ e.lit)) v (λ s. (sign_none_first v e.lit (lits_of es) h).0 (sym (var_neg e.lit) ∙ s)) in
        ap (λ b. if b then Some (is_positive (neg_ℤ e.lit)) else sign_in v (flat_map (negation_if k) es)) no ∙ r
    by false r = r

-- no variable comes twice
pub apart_kept : (k : ℕ → Bool) (es : List Entry) → AreApart (lits_of es) → AreApart (flat_map (negation_if k) es)
apart_kept k [] a = a
apart_kept k (e ∷ es) a = by (k (var_of e.lit)) (apart_kept k es a.1)
  where
    by : (p : Bool) → AreApart (flat_map (negation_if k) es)
        → AreApart ((if p then neg_ℤ e.lit ∷ [] else []) ++ flat_map (negation_if k) es)
    by true r = (none_kept k (var_of (neg_ℤ e.lit)) es (ap (λ w. sign_of w es) (var_neg e.lit) ∙ a.0), r)
    by false r = r

-- the negations are the entries' literals
pub negated_kept : (k : ℕ → Bool) (es : List Entry) → map neg_ℤ (flat_map (negation_if k) es) ≡ flat_map (part_of (flagged k)) es
negated_kept k [] = refl
negated_kept k (e ∷ es) = by (k (var_of e.lit)) (negated_kept k es)
  where
    by : (b : Bool) → map neg_ℤ (flat_map (negation_if k) es) ≡ flat_map (part_of (flagged k)) es
        → map neg_ℤ ((if b then neg_ℤ e.lit ∷ [] else []) ++ flat_map (negation_if k) es) ≡ (if b then e.lit ∷ [] else []) ++ flat_map
        (part_of (flagged k)) es
    by true h = ap (λ z. z ∷ map neg_ℤ (flat_map (negation_if k) es)) (neg_neg e.lit) ∙ ap (λ l. e.lit ∷ l) h
    by false h = h
