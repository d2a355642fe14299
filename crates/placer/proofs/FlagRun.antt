-- Kept and used entries by flags of their variables.

use Rattle.std.proofs.Common.{◌≡◌, ℕ, ℤ, ◌<◌, ◌⊎◌, Bool, true, false, not, ◌==◌, List, [], ◌∷◌, ◌++◌, get_or, Some, None, refl, sym, ap, subst, ◌∙◌, ⊎_elim}
use Rattle.std.specs.Prelude.{All, flat_map, ◌||◌}
use Rattle.std.specs.Bool.{if◌then◌else◌}
use Rattle.std.specs.Option.{option_map}
use Rattle.std.proofs.lemmas.Bool.{ne_eqb, eqb-true, eqb-false}
use Rattle.clause_base.specs.Lit.{var_of, is_positive}
use Rattle.clause_base.specs.Truth.{lits_of, sign_in, value_in, Forces, IsConflict, IsFalse, IsNumbered}
use Rattle.clause_base.specs.Refutation.{IsUnitRun}
use Rattle.clause_base.specs.declared.entry.Entry.{Entry}
use Rattle.trail.specs.Assignment.{sign_of, value_of, IsTrail}
use Rattle.propagate.specs.Standing.{AreForced}
use Rattle.trail.proofs.Signs.{sign-unassigned}
use Rattle.placer.proofs.Signs.{value-none}
use Rattle.clause_base.proofs.ListLemmas.{All-append_left, All-append_right}
use Rattle.placer.proofs.UnitSteps.{forced_at}
use Rattle.placer.proofs.MarkedRun.{part_of, hint_of, marked_of, run_marked}

-- tests of entries by flags of their variables
abbrev pub flagged : (ℕ → Bool) → Entry → Bool
flagged k e = k (var_of e.lit)

-- another variable has its sign elsewhere
sign_part : (k : Bool) (v : ℕ) (z : ℤ) (xs : List ℤ) → (var_of z ≡ v → ⊥) → sign_in v ((if k then z ∷ [] else []) ++ xs) ≡ sign_in v xs
sign_part true v z xs ne = ap (λ b. if b then Some (is_positive z) else sign_in v xs) (ne_eqb (var_of z) v ne)
sign_part false v z xs ne = refl

-- a flagged variable has the same sign in the flagged entries as in all
sign_flagged : (k u : ℕ → Bool) (v : ℕ) (es : List Entry) → (k v || u v) ≡ true
    → sign_in v (flat_map (marked_of (flagged k) (flagged u)) es) ≡ sign_of v es
sign_flagged k u v [] f = refl
sign_flagged k u v (e ∷ es) f = by (var_of e.lit == v) refl (sign_flagged k u v es f)
  where
    rest : List ℤ
    rest = flat_map (marked_of (flagged k) (flagged u)) es

    head : (p q : Bool) (xs : List ℤ) → (p || q) ≡ true → (var_of e.lit == v) ≡ true
        → sign_in v (((if p then e.lit ∷ [] else []) ++ (if q then e.lit ∷ [] else [])) ++ xs) ≡ Some (is_positive e.lit)
    head true q xs h t = ap (λ b. if b then Some (is_positive e.lit) else sign_in v ((if q then e.lit ∷ [] else []) ++ xs)) t
    head false true xs h t = ap (λ b. if b then Some (is_positive e.lit) else sign_in v xs) t
    head false false xs h t = cc

    skip : (p q : Bool) (xs : List ℤ) → (var_of e.lit ≡ v → ⊥)
        → sign_in v (((if p then e.lit ∷ [] else []) ++ (if q then e.lit ∷ [] else [])) ++ xs) ≡ sign_in v xs
    skip true q xs ne = ap (λ b. if b then Some (is_positive e.lit) else sign_in v ((if q then e.lit ∷ [] else []) ++ xs))
        (ne_eqb (var_of e.lit) v ne) ∙ sign_part q v e.lit xs ne
    skip false q xs ne = sign_part q v e.lit xs ne

    by : (b : Bool) → (var_of e.lit == v) ≡ b → sign_in v (flat_map (marked_of (flagged k) (flagged u)) es) ≡ sign_of v es
        → sign_in v ((part_of (flagged k) e ++ part_of (flagged u) e) ++ flat_map (marked_of (flagged k) (flagged u)) es)
        ≡ (if b then Some (is_positive e.lit) else sign_of v es)
    by true t r =
        let here : (k (var_of e.lit) || u (var_of e.lit)) ≡ true = ap (λ w. k w || u w) (eqb-true (var_of e.lit) v t) ∙ f in
        head (k (var_of e.lit)) (u (var_of e.lit)) (flat_map (marked_of (flagged k) (flagged u)) es) here t
    by false t r = skip (k (var_of e.lit)) (u (var_of e.lit)) (flat_map (marked_of (flagged k) (flagged u)) es)
        (eqb-false (var_of e.lit) v t) ∙ r

-- a variable with no sign has none among the flagged
none_flagged : (k u : ℕ → Bool) (v : ℕ) (es : List Entry) → sign_of v es ≡ None
    → sign_in v (flat_map (marked_of (flagged k) (flagged u)) es) ≡ None
none_flagged k u v [] h = refl
none_flagged k u v (e ∷ es) h = by (var_of e.lit == v) refl h (none_flagged k u v es)
  where
    skip : (p q : Bool) (xs : List ℤ) → (var_of e.lit ≡ v → ⊥)
        → sign_in v (((if p then e.lit ∷ [] else []) ++ (if q then e.lit ∷ [] else [])) ++ xs) ≡ sign_in v xs
    skip true q xs ne = ap (λ b. if b then Some (is_positive e.lit) else sign_in v ((if q then e.lit ∷ [] else []) ++ xs))
        (ne_eqb (var_of e.lit) v ne) ∙ sign_part q v e.lit xs ne
    skip false q xs ne = sign_part q v e.lit xs ne

    by : (b : Bool) → (var_of e.lit == v) ≡ b → (if b then Some (is_positive e.lit) else sign_of v es) ≡ None
        → (sign_of v es ≡ None → sign_in v (flat_map (marked_of (flagged k) (flagged u)) es) ≡ None)
        → sign_in v ((part_of (flagged k) e ++ part_of (flagged u) e) ++ flat_map (marked_of (flagged k) (flagged u)) es) ≡ None
    by true t h r = cc
    by false t h r = skip (k (var_of e.lit)) (u (var_of e.lit)) (flat_map (marked_of (flagged k) (flagged u)) es)
        (eqb-false (var_of e.lit) v t) ∙ r h

-- the reason of an entry is flagged but for the entry's own literal
abbrev pub IsClosed : (ℕ → Bool) → (ℕ → Bool) → List ℤ → ℤ → Type 0
IsClosed k u c own = All (λ y. (y ≡ own) ⊎ ((k (var_of y) || u (var_of y)) ≡ true)) c

module _ (vars : ℕ) (cs : List (List ℤ)) (es : List Entry) (n : ℕ) (k u : ℕ → Bool) (t : IsTrail vars es) (b : AreForced cs es)
    (one_flag : (v : ℕ) → u v ≡ true → k v ≡ false)
    (implied : (before : List Entry) (e : Entry) (rest : List Entry) → before ++ e ∷ rest ≡ es → u (var_of e.lit) ≡ true → 0 < e.reason)
    (closed : (before : List Entry) (e : Entry) (rest : List Entry) → before ++ e ∷ rest ≡ es → u (var_of e.lit) ≡ true → (c : List ℤ)
    → IsNumbered cs e.reason c → IsClosed k u c e.lit)
    (c : IsConflict (lits_of es) cs n)
    (all_flagged : All (λ y. (k (var_of y) || u (var_of y)) ≡ true) c.clause) where
  -- a flagged literal that is false is so under the marked entries
  false_flagged : (before : List Entry) (y : ℤ) → (k (var_of y) || u (var_of y)) ≡ true → value_of y before ≡ Some false
      → value_in y (flat_map (marked_of (flagged k) (flagged u)) before) ≡ Some false
  false_flagged before y f v = ap (option_map (λ s. if is_positive y then s else not s)) (sign_flagged k u (var_of y) before f) ∙ v

  -- a literal that is false is not one that is unassigned
  part_false : (before : List Entry) (own : ℤ) (part : List ℤ) → value_of own before ≡ None → IsFalse (lits_of before) part
      → All (λ y. (y ≡ own) ⊎ ((k (var_of y) || u (var_of y)) ≡ true)) part
      → IsFalse (flat_map (marked_of (flagged k) (flagged u)) before) part
  part_false before own part none f h i d lt = ⊎_elim
      (λ (e : get_or part i d ≡ own). let v : value_of (get_or part i d) before ≡ Some false = f i d lt in
      let w : value_of (get_or part i d) before ≡ value_of own before = ap (λ z. value_of z before) e in cc)
      (λ (g : (k (var_of (get_or part i d)) || u (var_of (get_or part i d))) ≡ true). false_flagged before (get_or part i d) g (f i d lt))
      (h i d lt)

  -- the reason of a used entry forces its literal
  closed_marks : (before : List Entry) (e : Entry) (rest : List Entry) → before ++ e ∷ rest ≡ es → flagged u e ≡ true
      → Forces (flat_map (marked_of (flagged k) (flagged u)) before) cs e.reason e.lit
  closed_marks before e rest whole used =
      let a : Forces (lits_of before) cs e.reason e.lit =
      forced_at cs before e rest (subst (λ (xs : List Entry). AreForced cs xs) (sym whole) b) (implied before e rest whole used) in
      let h : IsClosed k u a.clause e.lit = closed before e rest whole used a.clause a.numbered in
      let P : ℤ → Type 0 = λ y. (y ≡ e.lit) ⊎ ((k (var_of y) || u (var_of y)) ≡ true) in
      let parts : All P (a.unit.front ++ e.lit ∷ a.unit.back) = subst (λ (l : List ℤ). All P l) a.unit.split h in
      record {
        clause = a.clause;
        numbered = a.numbered;
        unit = record {
          front = a.unit.front;
          back = a.unit.back;
          split = a.unit.split;
          unassigned = value-none e.lit (flat_map (marked_of (flagged k) (flagged u)) before)
              (none_flagged k u (var_of e.lit) before (sign-unassigned e.lit before a.unit.unassigned));
          before = part_false before e.lit a.unit.front a.unit.unassigned a.unit.before
              (All-append_left P a.unit.front (e.lit ∷ a.unit.back) parts);
          after = part_false before e.lit a.unit.back a.unit.unassigned a.unit.after
              (All-append_right P (e.lit ∷ []) a.unit.back (All-append_right P a.unit.front (e.lit ∷ a.unit.back) parts));
        };
      }

  -- the conflict is false under the marked entries
  conflict_marks : IsConflict (flat_map (marked_of (flagged k) (flagged u)) es) cs n
  conflict_marks = record {
    clause = c.clause;
    numbered = c.numbered;
    all_false = λ i d lt. false_flagged es (get_or c.clause i d) (all_flagged i d lt) (c.all_false i d lt);
  }

  -- where the used reasons and the conflict are closed under the flags, the used reasons lead from the kept entries to the conflict
  pub run_flags : IsUnitRun cs (flat_map (part_of (flagged k)) es) (flat_map (hint_of (flagged u)) es ++ n ∷ [])
  run_flags = run_marked vars cs es n (flagged k) (flagged u) t (λ e h. one_flag (var_of e.lit) h) closed_marks conflict_marks
