-- From kept entries the reasons of used ones along the trail lead to the false clause.

use Rattle.std.proofs.Common.{◌≡◌, ℕ, ℤ, ◌⊎◌, Bool, true, false, List, [], ◌∷◌, ◌++◌, None, refl, sym, ap, subst, ◌∙◌, ⊎_elim, inl, inr}
use Rattle.std.specs.Prelude.{flat_map}
use Rattle.std.specs.Bool.{if◌then◌else◌}
use Rattle.std.proofs.lemmas.List.{append-nil, append_assoc}
use Rattle.std.proofs.lemmas.List.Concat.{flat_map-append}
use Rattle.clause_base.specs.Lit.{var_of}
use Rattle.clause_base.specs.Truth.{lits_of, sign_in, Forces, IsConflict, IsFalse}
use Rattle.clause_base.specs.Refutation.{IsUnitRun}
use Rattle.clause_base.specs.declared.entry.Entry.{Entry}
use Rattle.trail.specs.Assignment.{IsTrail}
use Rattle.placer.proofs.Signs.{In, in-left, in-right, in-cases, none-there, none-from, AreApart, apart-tail, value-none, lits-append, trail-apart}
use Rattle.placer.proofs.UnitSteps.{follows_at, IsUnitRun_step, false_under}

-- the literals of the entries that pass
abbrev pub part_of : (Entry → Bool) → Entry → List ℤ
part_of p e = if p e then e.lit ∷ [] else []

-- the reasons of the entries that pass
abbrev pub hint_of : (Entry → Bool) → Entry → List ℕ
hint_of p e = if p e then e.reason ∷ [] else []

-- the literals of entries that pass one test or the other
abbrev pub marked_of : (Entry → Bool) → (Entry → Bool) → Entry → List ℤ
marked_of keep used e = part_of keep e ++ part_of used e

-- a literal of the entries that pass is one of all
in_part : (p : Entry → Bool) (z : ℤ) (es : List Entry) → In z (flat_map (part_of p) es) → In z (lits_of es)
in_part p z [] i = i
in_part p z (e ∷ es) i = by (p e) i (in_part p z es)
  where
    by : (b : Bool) → In z ((if b then e.lit ∷ [] else []) ++ flat_map (part_of p) es)
        → (In z (flat_map (part_of p) es) → In z (lits_of es)) → In z (e.lit ∷ lits_of es)
    by true i h = ⊎_elim (λ (s : e.lit ≡ z). inl s) (λ (j : In z (flat_map (part_of p) es)). inr (h j)) i
    by false i h = inr (h i)

-- a literal of the marked entries is one of all
in_marked : (k u : Entry → Bool) (z : ℤ) (es : List Entry) → In z (flat_map (marked_of k u) es)
    → In z (flat_map (part_of k) es) ⊎ In z (flat_map (part_of u) es)
in_marked k u z [] i = absurd i
in_marked k u z (e ∷ es) i = ⊎_elim
    (λ (here : In z (part_of k e ++ part_of u e)). ⊎_elim
    (λ (a : In z (part_of k e)). inl (in-left z (part_of k e) (flat_map (part_of k) es) a))
    (λ (b : In z (part_of u e)). inr (in-left z (part_of u e) (flat_map (part_of u) es) b))
    (in-cases z (part_of k e) (part_of u e) here))
    (λ (later : In z (flat_map (marked_of k u) es)). ⊎_elim
    (λ (a : In z (flat_map (part_of k) es)). inl (in-right z (part_of k e) (flat_map (part_of k) es) a))
    (λ (b : In z (flat_map (part_of u) es)). inr (in-right z (part_of u e) (flat_map (part_of u) es) b))
    (in_marked k u z es later))
    (in-cases z (part_of k e ++ part_of u e) (flat_map (marked_of k u) es) i)

-- kept entries hold at first; each used entry's reason forces for its literal under the marked entries before it, and the conflict is false under all marked entries
module _ (vars : ℕ) (cs : List (List ℤ)) (es : List Entry) (n : ℕ) (keep used : Entry → Bool) (t : IsTrail vars es)
    (one_mark : (e : Entry) → used e ≡ true → keep e ≡ false)
    (closed : (before : List Entry) (e : Entry) (rest : List Entry) → before ++ e ∷ rest ≡ es → used e ≡ true
    → Forces (flat_map (marked_of keep used) before) cs e.reason e.lit)
    (c : IsConflict (flat_map (marked_of keep used) es) cs n) where
  -- what holds after the entries before a place
  abbrev held_at : List Entry → List ℤ
  held_at before = flat_map (part_of keep) es ++ flat_map (part_of used) before

  -- no variable comes twice
  apart : AreApart (lits_of es)
  apart = trail-apart vars es t

  -- a literal of the first entries is one of all
  in_whole : (before rest : List Entry) → before ++ rest ≡ es → (z : ℤ) → In z (lits_of before) → In z (lits_of es)
  in_whole before rest whole z i =
      subst (λ (xs : List Entry). In z (lits_of xs)) whole
      (subst (λ (l : List ℤ). In z l) (sym (lits-append before rest)) (in-left z (lits_of before) (lits_of rest) i))

  -- what holds is of the entries
  sub : (before rest : List Entry) → before ++ rest ≡ es → (z : ℤ) → In z (held_at before) → In z (lits_of es)
  sub before rest whole z i =
      ⊎_elim (λ (d : In z (flat_map (part_of keep) es)). in_part keep z es d)
      (λ (p : In z (flat_map (part_of used) before)). in_whole before rest whole z (in_part used z before p))
      (in-cases z (flat_map (part_of keep) es) (flat_map (part_of used) before) i)

  -- what is marked among the first entries holds
  pre : (before rest : List Entry) → before ++ rest ≡ es → (z : ℤ) → In z (flat_map (marked_of keep used) before) → In z (held_at before)
  pre before rest whole z i = ⊎_elim
      (λ (d : In z (flat_map (part_of keep) before)).
      let e : flat_map (part_of keep) before ++ flat_map (part_of keep) rest ≡ flat_map (part_of keep) es =
      sym (flat_map-append (part_of keep) before rest) ∙ ap (flat_map (part_of keep)) whole in
      in-left z (flat_map (part_of keep) es) (flat_map (part_of used) before)
      (subst (λ (l : List ℤ). In z l) e (in-left z (flat_map (part_of keep) before) (flat_map (part_of keep) rest) d)))
      (λ (p : In z (flat_map (part_of used) before)). in-right z (flat_map (part_of keep) es) (flat_map (part_of used) before) p)
      (in_marked keep used z before i)

  -- the literal of a used entry does not hold before it
  free : (before : List Entry) (e : Entry) (rest : List Entry) → before ++ e ∷ rest ≡ es → used e ≡ true
      → sign_in (var_of e.lit) (held_at before) ≡ None
  free before e rest whole implied = none-from (var_of e.lit) (held_at before) (λ z i same. ⊎_elim
      (λ (d : In z (flat_map (part_of keep) es)). ⊎_elim
      (λ (x : In z (flat_map (part_of keep) before)). front z (in_part keep z before x) same)
      (λ (y : In z (flat_map (part_of keep) (e ∷ rest))).
      let later : In z (flat_map (part_of keep) rest) =
      subst (λ (p : Bool). In z ((if p then e.lit ∷ [] else []) ++ flat_map (part_of keep) rest)) (one_mark e implied) y in
      back z (in_part keep z rest later) same)
      (in-cases z (flat_map (part_of keep) before) (flat_map (part_of keep) (e ∷ rest))
      (subst (λ (l : List ℤ). In z l) (ap (flat_map (part_of keep)) (sym whole) ∙ flat_map-append (part_of keep) before (e ∷ rest))
      d)))
      (λ (p : In z (flat_map (part_of used) before)). front z (in_part used z before p) same)
      (in-cases z (flat_map (part_of keep) es) (flat_map (part_of used) before) i))
    where
      trail_here : IsTrail vars (before ++ e ∷ rest)
      trail_here = subst (λ (xs : List Entry). IsTrail vars xs) (sym whole) t

      front : (z : ℤ) → In z (lits_of before) → var_of z ≡ var_of e.lit → ⊥
      front z i same = none-there (var_of e.lit) z (lits_of before) (follows_at vars before e rest trail_here).fresh i same

      tail : AreApart (e.lit ∷ lits_of rest)
      tail = apart-tail (lits_of before) (lits_of (e ∷ rest))
          (subst (λ (l : List ℤ). AreApart l) (lits-append before (e ∷ rest)) (trail-apart vars (before ++ e ∷ rest) trail_here))

      back : (z : ℤ) → In z (lits_of rest) → var_of z ≡ var_of e.lit → ⊥
      back z i same = none-there (var_of e.lit) z (lits_of rest) tail.0 i same

  -- the reason of a used entry forces its literal
  forces : (before : List Entry) (e : Entry) (rest : List Entry) → before ++ e ∷ rest ≡ es → used e ≡ true
      → Forces (held_at before) cs e.reason e.lit
  forces before e rest whole implied =
      let a : Forces (flat_map (marked_of keep used) before) cs e.reason e.lit = closed before e rest whole implied in
      record {
        clause = a.clause;
        numbered = a.numbered;
        unit = record {
          front = a.unit.front;
          back = a.unit.back;
          split = a.unit.split;
          unassigned = value-none e.lit (held_at before) (free before e rest whole implied);
          before = false_under (lits_of es) (held_at before) (flat_map (marked_of keep used) before) apart (sub before (e ∷ rest) whole)
              (pre before (e ∷ rest) whole) a.unit.front a.unit.before;
          after = false_under (lits_of es) (held_at before) (flat_map (marked_of keep used) before) apart (sub before (e ∷ rest) whole)
              (pre before (e ∷ rest) whole) a.unit.back a.unit.after;
        };
      }

  -- the run from a place on
  run_from : (before rest : List Entry) → before ++ rest ≡ es → IsUnitRun cs (held_at before) (flat_map (hint_of used) rest ++ n ∷ [])
  run_from before [] whole =
      let all : before ≡ es = sym (append-nil before) ∙ whole in
      let f : IsFalse (held_at before) c.clause =
      false_under (lits_of es) (held_at before) (flat_map (marked_of keep used) es) apart (sub before [] whole)
      (λ z i. pre before [] whole z (subst (λ (xs : List Entry). In z (flat_map (marked_of keep used) xs)) (sym all) i))
      c.clause c.all_false in
      record { clause = c.clause; numbered = c.numbered; all_false = f }
  run_from before (e ∷ rest) whole = by (used e) refl (run_from (before ++ e ∷ []) rest (append_assoc before (e ∷ []) rest ∙ whole))
    where
      by : (p : Bool) → used e ≡ p → IsUnitRun cs (held_at (before ++ e ∷ [])) (flat_map (hint_of used) rest ++ n ∷ [])
          → IsUnitRun cs (held_at before) (((if p then e.reason ∷ [] else []) ++ flat_map (hint_of used) rest) ++ n ∷ [])
      by false not_used r =
          let same : flat_map (part_of used) (before ++ e ∷ []) ≡ flat_map (part_of used) before =
          flat_map-append (part_of used) before (e ∷ [])
          ∙ ap (λ p. flat_map (part_of used) before ++ ((if p then e.lit ∷ [] else []) ++ [])) not_used
          ∙ append-nil (flat_map (part_of used) before) in
          subst (λ (l : List ℤ). IsUnitRun cs (flat_map (part_of keep) es ++ l) (flat_map (hint_of used) rest ++ n ∷ [])) same r
      by true is_used r =
          let same : flat_map (part_of keep) es ++ flat_map (part_of used) (before ++ e ∷ []) ≡ held_at before ++ e.lit ∷ [] =
          ap (λ l. flat_map (part_of keep) es ++ l)
          (flat_map-append (part_of used) before (e ∷ [])
          ∙ ap (λ p. flat_map (part_of used) before ++ ((if p then e.lit ∷ [] else []) ++ [])) is_used)
          ∙ sym (append_assoc (flat_map (part_of keep) es) (flat_map (part_of used) before) (e.lit ∷ [])) in
          IsUnitRun_step cs (held_at before) e.reason e.lit (flat_map (hint_of used) rest ++ n ∷ []) (forces before e rest whole is_used)
          (subst (λ (l : List ℤ). IsUnitRun cs l (flat_map (hint_of used) rest ++ n ∷ [])) same r)

  -- from the kept entries, the reasons of the used ones along the trail lead to the conflict
  pub run_marked : IsUnitRun cs (flat_map (part_of keep) es) (flat_map (hint_of used) es ++ n ∷ [])
  run_marked = subst (λ (l : List ℤ). IsUnitRun cs l (flat_map (hint_of used) es ++ n ∷ [])) (append-nil (flat_map (part_of keep) es))
      (run_from [] es refl)
