-- What is derived from clauses is true wherever they are: both the search and the checker rest on it.
use Rattle.std.proofs.Common.{◌≡◌, ℕ, zero, suc, ℤ, pos, negsuc, neg_ℤ, ◌-◌, ◌<◌, ◌==◌, Bool, true, false, not, List, [], ◌∷◌, ◌++◌, map, Option, Some, None, refl, sym, ap, ◌∙◌, inl, inr, arith}
use Rattle.std.specs.Prelude.{All, ◌||◌, slice_get}
use Rattle.std.specs.Bool.{if◌then◌else◌}
use Rattle.std.specs.Option.{option_map}
use Rattle.std.proofs.lemmas.Bool.{cases_Bool, not-true, not-false, or_parts}
use Rattle.std.proofs.lemmas.Bool.Decides.{nat_tests}
use Rattle.std.proofs.lemmas.List.Elements.{All-push}
use Rattle.std.proofs.lemmas.List.Folds.{list_any-append}
use Rattle.clause_base.specs.Lit.{var_of, is_positive}
use Rattle.clause_base.specs.Clauses.{Clauses}
use Rattle.clause_base.specs.declared.line.Line.{Line}
use Rattle.clause_base.specs.Truth as truth
use Rattle.clause_base.specs.Truth.{sign_in, IsFalse, IsUnit, IsNumbered, Forces, IsConflict}
use Rattle.clause_base.specs.Refutation.{IsUnitRun, Derived}
use Rattle.clause_base.specs.TruthValues.{lit_holds, clause_holds, AllHold}

-- each literal is true
abbrev pub AreTrue : (ℕ → Bool) → List ℤ → Type 0
AreTrue values zs = All (λ z. lit_holds values z ≡ true) zs

-- the sign of a literal that is true is the value of its variable
sign_of_true : (values : ℕ → Bool) (z : ℤ) → lit_holds values z ≡ true → values (var_of z) ≡ is_positive z
sign_of_true values (pos n) h = h
sign_of_true values (negsuc n) h = not-true (values (suc n)) h

sign_told : (values : ℕ → Bool) (v : ℕ) (held : List ℤ) (s : Bool) → AreTrue values held → sign_in v held ≡ Some s → values v ≡ s
sign_told values v [] s all e = cc
sign_told values v (z ∷ zs) s all e = by (var_of z == v) refl (λ h. sign_told values v zs s (λ k d lt. all (suc k) d (omega arith)) h) e
  where
    by : (b : Bool) → (var_of z == v) ≡ b → (sign_in v zs ≡ Some s → values v ≡ s)
        → (if b then Some (is_positive z) else sign_in v zs) ≡ Some s → values v ≡ s
    by true same further h =
        let at : var_of z ≡ v = grind (arith, nat_tests) in
        let sign : is_positive z ≡ s = cc in
        ap values (sym at) ∙ sign_of_true values z (all 0 z (omega arith)) ∙ sign
    by false other further h = further h

lit_is : (values : ℕ → Bool) (z : ℤ) → lit_holds values z ≡ (if is_positive z then values (var_of z) else not (values (var_of z)))
lit_is values (pos n) = refl
lit_is values (negsuc n) = refl

-- the value that a literal has under literals that are true
value_told : (values : ℕ → Bool) (z : ℤ) (held : List ℤ) (b : Bool) → AreTrue values held → truth.value_in z held ≡ Some b
    → lit_holds values z ≡ b
value_told values z held b all e = lit_is values z ∙ by (sign_in (var_of z) held) refl e
  where
    by : (o : Option Bool) → sign_in (var_of z) held ≡ o → option_map (λ s. if is_positive z then s else not s) o ≡ Some b
        → (if is_positive z then values (var_of z) else not (values (var_of z))) ≡ b
    by None is h = cc
    by (Some s) is h =
        let value : (if is_positive z then s else not s) ≡ b = cc in
        ap (λ v. if is_positive z then v else not v) (sign_told values (var_of z) held s all is) ∙ value

-- false literals make no clause true
false_fails : (values : ℕ → Bool) (held clause : List ℤ) → AreTrue values held → IsFalse held clause → clause_holds values clause ≡ false
false_fails values held [] all h = refl
false_fails values held (z ∷ zs) all h =
    ap (λ b. b || clause_holds values zs) (value_told values z held false all (h 0 z (omega arith)))
    ∙ false_fails values held zs all (λ k d lt. h (suc k) d (omega arith))

or_left : (a b : Bool) → b ≡ false → (a || b) ≡ true → a ≡ true
or_left true b h k = refl
or_left false b h k = cc

or_right : (a b : Bool) → a ≡ false → (a || b) ≡ true → b ≡ true
or_right true b h k = cc
or_right false b h k = k

-- the literal that a true clause forces is true
unit_true : (values : ℕ → Bool) (held clause : List ℤ) (z : ℤ) → AreTrue values held → IsUnit held clause z
    → clause_holds values clause ≡ true → lit_holds values z ≡ true
unit_true values held clause z all u h =
    let parts : (clause_holds values u.front || clause_holds values (z ∷ u.back)) ≡ true =
    sym (list_any-append (lit_holds values) u.front (z ∷ u.back)) ∙ sym (ap (clause_holds values) u.split) ∙ h in
    let rest : (lit_holds values z || clause_holds values u.back) ≡ true =
    or_right _ _ (false_fails values held u.front all u.before) parts in
    or_left _ _ (false_fails values held u.back all u.after) rest

-- a clause of a number is one of those that hold
numbered_holds : (values : ℕ → Bool) (clauses : List (List ℤ)) (number : ℕ) (clause : List ℤ) → AllHold values clauses
    → IsNumbered clauses number clause → clause_holds values clause ≡ true
numbered_holds values clauses number clause all n = by clauses (number - 1) all n.there
  where
    by : (cs : List (List ℤ)) (k : ℕ) → AllHold values cs → slice_get cs k ≡ Some clause → clause_holds values clause ≡ true
    by [] k h e = cc
    by (c ∷ cs) zero h e = let same : c ≡ clause = cc in ap (clause_holds values) (sym same) ∙ h 0 c (omega arith)
    by (c ∷ cs) (suc k) h e = by cs k (λ i d lt. h (suc i) d (omega arith)) e

-- no values make the clauses and all literals that hold true, where a run of hints leads to a conflict
run_fails : (values : ℕ → Bool) (clauses : List (List ℤ)) (held : List ℤ) (hints : List ℕ) → AllHold values clauses → AreTrue values held
    → IsUnitRun clauses held hints → ⊥
run_fails values clauses held [] all true_held r = r
run_fails values clauses held (last ∷ []) all true_held r =
    let no : true ≡ false = sym (numbered_holds values clauses last r.clause all r.numbered)
    ∙ false_fails values held r.clause true_held r.all_false in cc
run_fails values clauses held (hint ∷ (next ∷ rest)) all true_held r =
    let f = r.1 in
    let z_true = unit_true values held f.clause r.0 true_held f.unit (numbered_holds values clauses hint f.clause all f.numbered) in
    run_fails values clauses (held ++ r.0 ∷ []) (next ∷ rest) all (All-push (λ z. lit_holds values z ≡ true) held r.0 true_held z_true)
    r.2

negated_true : (values : ℕ → Bool) (z : ℤ) → 0 < var_of z → lit_holds values z ≡ false → lit_holds values (neg_ℤ z) ≡ true
negated_true values (pos zero) lt h = absurd (omega arith)
negated_true values (pos (suc n)) lt h = ap not h
negated_true values (negsuc n) lt h = not-false (values (suc n)) h

negations_true : (values : ℕ → Bool) (clause : List ℤ) → All (λ z. 0 < var_of z) clause → clause_holds values clause ≡ false
    → AreTrue values (map neg_ℤ clause)
negations_true values [] above h k d lt = absurd (omega arith)
negations_true values (z ∷ zs) above h zero d lt = negated_true values z (above 0 z (omega arith)) (or_parts _ _ h).0
negations_true values (z ∷ zs) above h (suc k) d lt =
    negations_true values zs (λ i e in_zs. above (suc i) e (omega arith)) (or_parts _ _ h).1 k d (omega arith)

-- a derived line is true wherever the clauses are
pub derived_holds : (values : ℕ → Bool) (list : Clauses) (line : Line) → AllHold values list.clauses → Derived list line
    → clause_holds values line.clause ≡ true
derived_holds values list line all d = elim (cases_Bool (clause_holds values line.clause)) [
  | inl holds ↦ holds
  | inr fails ↦ absurd (run_fails values list.clauses (map neg_ℤ line.clause) line.hints all
      (negations_true values line.clause d.above fails) d.run)
]
