-- The truth values of literals, where entries are added or left out.

use Rattle.std.proofs.Common.{get_or, length, ◌≡◌, ◌≢◌, ℕ, suc, ℤ, ◌+◌, ◌<◌, Bool, true, false, cond, not, ◌==◌, List, [], ◌∷◌, ◌++◌, take, drop, filter, Option, Some, None, refl, sym, ap, subst, ◌∙◌, inl, inr, ◌⊎◌, arith}
use Rattle.std.specs.Prelude.{nat_le, slice_get, neg_ℤ, AllPairs}
use Rattle.std.specs.Bool.{if◌then◌else◌}
use mathlib.Core.Bool.{beq}
use Rattle.std.specs.Option.{option_map, option_or, option_eq}
use Rattle.std.proofs.lemmas.Bool.{eqb-true, eq-eqb, ne_eqb}
use Rattle.std.proofs.lemmas.Bool.Decides.{Decides-int_eq}
use Rattle.std.specs.Ordering.{int_eq}
use Rattle.std.proofs.lemmas.List.{take-append-drop}
use Rattle.std.proofs.lemmas.List.Elements.{filter-append}
use Rattle.std.proofs.lemmas.Option.{none-some}
use Rattle.clause_base.specs.Lit.{var_of, is_positive}
use Rattle.clause_base.specs.Truth.{lits_of, IsSatisfied}
use Rattle.clause_base.specs.declared.entry.Entry.{Entry}
use Rattle.clause_base.proofs.ListLemmas.{take_there}
use Rattle.clause_base.proofs.LiteralLemmas.{var_neg, positive_neg, same_literal, value_of_sign}
use Rattle.trail.specs.Assignment.{value_of, sign_of, Follows, IsTrail, IsLevelled}
use Rattle.trail.proofs.Levels.{IsTrail-levelled}
use Rattle.trail.proofs.Signs.{given_by, sign-push, sign-unassigned}
use Rattle.propagate.specs.Standing.{up_to}

-- a sign stays where entries are added
sign_append : (v : ℕ) (es more : List Entry) (s : Bool) → sign_of v es ≡ Some s → sign_of v (es ++ more) ≡ Some s
sign_append v [] more s h = cc
sign_append v (e ∷ es) more s h = by (var_of e.lit == v) (sign_append v es more s) h
  where
    by : (b : Bool) → (sign_of v es ≡ Some s → sign_of v (es ++ more) ≡ Some s)
        → (if b then Some (is_positive e.lit) else sign_of v es) ≡ Some s
        → (if b then Some (is_positive e.lit) else sign_of v (es ++ more)) ≡ Some s
    by true rest h = h
    by false rest h = rest h

-- no sign is in what is left where entries are left out
pub sign_filter : (p : Entry → Bool) (v : ℕ) (es : List Entry) → sign_of v es ≡ None → sign_of v (filter p es) ≡ None
sign_filter p v [] h = refl
sign_filter p v (e ∷ es) h = by (p e) (var_of e.lit == v) refl h (sign_filter p v es)
  where
    by : (b c : Bool) → (var_of e.lit == v) ≡ c → (if c then Some (is_positive e.lit) else sign_of v es) ≡ None
        → (sign_of v es ≡ None → sign_of v (filter p es) ≡ None) → sign_of v (cond b (e ∷ filter p es) (filter p es)) ≡ None
    by b true t h rest = cc
    by true false t h rest = ap (λ d. if d then Some (is_positive e.lit) else sign_of v (filter p es)) t ∙ rest h
    by false false t h rest = rest h

-- nor in a front
sign_take : (v : ℕ) (h : ℕ) (es : List Entry) → sign_of v es ≡ None → sign_of v (take h es) ≡ None
sign_take v h es none = by (sign_of v (take h es)) refl
  where
    by : (o : Option Bool) → sign_of v (take h es) ≡ o → o ≡ None
    by None e = refl
    by (Some s) e =
        let some : sign_of v es ≡ Some s = ap (sign_of v) (sym (take-append-drop h es)) ∙ sign_append v (take h es) (drop h es) s e in cc

-- a value stays where entries are added
pub value_append : (z : ℤ) (es more : List Entry) (b : Bool) → value_of z es ≡ Some b → value_of z (es ++ more) ≡ Some b
value_append z es more b h = value_of_sign z (lits_of es) (lits_of (es ++ more)) (λ s. sign_append (var_of z) es more s) b h

-- a literal that is unassigned was so at the end of each level, and among the entries seen
pub value_unseen : (z : ℤ) (es : List Entry) (l h : ℕ) → value_of z es ≡ None → value_of z (up_to l (take h es)) ≡ None
value_unseen z es l h free =
    let none : sign_of (var_of z) (up_to l (take h es)) ≡ None =
    sign_filter (λ e. nat_le e.level l) (var_of z) (take h es) (sign_take (var_of z) h es (sign-unassigned z es free)) in
    ap (option_map (λ s. if is_positive z then s else not s)) none

-- the value after one more entry is the one before, or the one that the entry gives
pub value_push_cases : (z : ℤ) (xs : List Entry) (p : Entry) (b : Bool) → value_of z (xs ++ p ∷ []) ≡ Some b
    → (value_of z xs ≡ Some b) ⊎ (value_of z (p ∷ []) ≡ Some b)
value_push_cases z xs p b h = by (sign_of (var_of z) xs) refl
  where
    by : (o : Option Bool) → sign_of (var_of z) xs ≡ o → (value_of z xs ≡ Some b) ⊎ (value_of z (p ∷ []) ≡ Some b)
    by None e =
        inr (ap (option_map (λ s. if is_positive z then s else not s))
        (sym (sign-push (var_of z) xs p ∙ ap (λ o. option_or o (given_by (var_of z) p)) e)) ∙ h)
    by (Some s) e = inl (ap (option_map (λ s. if is_positive z then s else not s)) (e ∙ sym (sign_append (var_of z) xs (p ∷ []) s e)) ∙ h)

-- an entry makes just the negation of its literal false
pub value_one_false : (z : ℤ) (p : Entry) → 0 < var_of p.lit → value_of z (p ∷ []) ≡ Some false → z ≡ neg_ℤ p.lit
value_one_false z p above h = by (var_of p.lit == var_of z) refl h
  where
    turned : (a b : Bool) → ◌≡◌ {A = Option Bool} (Some (if a then b else not b)) (Some false) → a ≡ not b
    turned true true h = cc
    turned true false h = refl
    turned false true h = refl
    turned false false h = cc

    by : (c : Bool) → (var_of p.lit == var_of z) ≡ c
        → option_map (λ s. if is_positive z then s else not s) (if c then Some (is_positive p.lit) else None) ≡ Some false
        → z ≡ neg_ℤ p.lit
    by true t h =
        let vars : var_of z ≡ var_of (neg_ℤ p.lit) = sym (eqb-true (var_of p.lit) (var_of z) t) ∙ sym (var_neg p.lit) in
        let signs : is_positive z ≡ is_positive (neg_ℤ p.lit) = turned (is_positive z) (is_positive p.lit) h
        ∙ sym (positive_neg p.lit above) in
        same_literal z (neg_ℤ p.lit) vars signs
    by false t h = cc

-- the negation of an entry's literal is false
pub false_there : (vars : ℕ) (es : List Entry) (h : ℕ) (p : Entry) → IsTrail vars es → slice_get es h ≡ Some p
    → value_of (neg_ℤ p.lit) es ≡ Some false
false_there vars es h p t there =
    subst (λ (xs : List Entry). value_of (neg_ℤ p.lit) xs ≡ Some false) (take-append-drop (h + 1) es)
    (value_append (neg_ℤ p.lit) (take (h + 1) es) (drop (h + 1) es) false front)
  where
    f : Follows vars (take h es) p
    f = t h p there

    opposite : (b : Bool) → ◌≡◌ {A = Option Bool} (Some (if not b then b else not b)) (Some false)
    opposite true = refl
    opposite false = refl

    sign : sign_of (var_of (neg_ℤ p.lit)) (take (h + 1) es) ≡ Some (is_positive p.lit)
    sign =
        let own : (var_of p.lit == var_of p.lit) ≡ true = eq-eqb (var_of p.lit) (var_of p.lit) refl in
        ap (sign_of (var_of (neg_ℤ p.lit))) (take_there es h p there) ∙ ap (λ v. sign_of v (take h es ++ p ∷ [])) (var_neg p.lit)
        ∙ sign-push (var_of p.lit) (take h es) p ∙ ap (λ o. option_or o (given_by (var_of p.lit) p)) f.fresh
        ∙ ap (λ b. if b then Some (is_positive p.lit) else None) own

    front : value_of (neg_ℤ p.lit) (take (h + 1) es) ≡ Some false
    front =
        ap (option_map (λ s. if is_positive (neg_ℤ p.lit) then s else not s)) sign
        ∙ ap (λ b. Some (if b then is_positive p.lit else not (is_positive p.lit))) (positive_neg p.lit f.above)
        ∙ opposite (is_positive p.lit)

-- the ends of the levels of entries and more
pub up_to_append : (l : ℕ) (es more : List Entry) → up_to l (es ++ more) ≡ up_to l es ++ up_to l more
up_to_append l es more = filter-append (λ e. nat_le e.level l) es more

-- a clause that is true stays true where entries are added
pub satisfied_append : (es more : List Entry) (clause : List ℤ) → IsSatisfied (lits_of es) clause
    → IsSatisfied (lits_of (es ++ more)) clause
satisfied_append es more clause s =
    record { place = s.place; lit = s.lit; there = s.there; holds = value_append s.lit es more true s.holds }

-- what the test of two literals tells
pub same_lits : (x y : ℤ) → int_eq x y ≡ true → x ≡ y
same_lits x y h = (Decides-int_eq x y).0 h

-- what the test for a true value tells
pub told_true : (o : Option Bool) → option_eq beq o (Some true) ≡ true → o ≡ Some true
told_true None h = cc
told_true (Some true) h = refl
told_true (Some false) h = cc

-- where no entry that passes is of a variable, it has no sign among those that pass
pub sign_none : (p : Entry → Bool) (v : ℕ) (es : List Entry)
    → ((i : ℕ) (d : Entry) → i < length es → p (get_or es i d) ≡ true → var_of (get_or es i d).lit ≢ v) → sign_of v (filter p es) ≡ None
sign_none p v [] h = refl
sign_none p v (e ∷ es) h = by (p e) refl (sign_none p v es (λ i d lt. h (suc i) d (omega arith)))
  where
    by : (b : Bool) → p e ≡ b → sign_of v (filter p es) ≡ None → sign_of v (cond b (e ∷ filter p es) (filter p es)) ≡ None
    by true passes rest =
        ap (λ c. if c then Some (is_positive e.lit) else sign_of v (filter p es))
        (ne_eqb (var_of e.lit) v (h 0 e (omega arith) passes)) ∙ rest
    by false passes rest = rest

-- where each variable comes once, a sign among those that pass is the one among all
sign_of_filter : (p : Entry → Bool) (v : ℕ) (es : List Entry) (s : Bool) → AllPairs (λ a b. var_of a.lit ≢ var_of b.lit) es
    → sign_of v (filter p es) ≡ Some s → sign_of v es ≡ Some s
sign_of_filter p v [] s apart h = h
sign_of_filter p v (e ∷ es) s apart h =
    by (p e) (var_of e.lit == v) refl refl h
    (sign_of_filter p v es s (λ i j d lt within. apart (suc i) (suc j) d (omega arith) (omega arith)))
  where
    absent : (var_of e.lit == v) ≡ true → sign_of v (filter p es) ≡ None
    absent is = sign_none p v es
        (λ i d lt passes same. apart 0 (suc i) d (omega arith) (omega arith) (eqb-true (var_of e.lit) v is ∙ sym same))

    by : (b c : Bool) → p e ≡ b → (var_of e.lit == v) ≡ c → sign_of v (cond b (e ∷ filter p es) (filter p es)) ≡ Some s
        → (sign_of v (filter p es) ≡ Some s → sign_of v es ≡ Some s) → (if c then Some (is_positive e.lit) else sign_of v es) ≡ Some s
    by true true passes is h rest = ap (λ c. if c then Some (is_positive e.lit) else sign_of v (filter p es)) (sym is) ∙ h
    by true false passes is h rest = rest (ap (λ c. if c then Some (is_positive e.lit) else sign_of v (filter p es)) (sym is) ∙ h)
    by false true passes is h rest = absurd (none-some s (sym (absent is) ∙ h))
    by false false passes is h rest = rest h

-- a value at the end of a level, among the entries seen, is the value now
pub value_seen : (vars : ℕ) (es : List Entry) (l h : ℕ) (z : ℤ) (b : Bool) → IsTrail vars es
    → value_of z (up_to l (take h es)) ≡ Some b → value_of z es ≡ Some b
value_seen vars es l h z b t e =
    let split : up_to l es ≡ up_to l (take h es) ++ up_to l (drop h es) =
    ap (up_to l) (sym (take-append-drop h es)) ∙ up_to_append l (take h es) (drop h es) in
    let later : value_of z (up_to l es) ≡ Some b =
    ap (value_of z) split ∙ value_append z (up_to l (take h es)) (up_to l (drop h es)) b e in
    let levelled : IsLevelled es = IsTrail-levelled vars es t in
    value_of_sign z (lits_of (up_to l es)) (lits_of es) (λ s. sign_of_filter (λ x. nat_le x.level l) (var_of z) es s levelled.apart) b later

-- what the test for a true value tells where it fails
pub told_not_true : (o : Option Bool) → option_eq beq o (Some true) ≡ false → o ≢ Some true
told_not_true (Some true) h same = cc
told_not_true (Some false) h same = cc
told_not_true None h same = cc
