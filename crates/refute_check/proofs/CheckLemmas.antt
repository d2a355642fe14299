-- How far the lines of a text go, line by line.
use Rattle.std.proofs.Common.{◌≡◌, ℕ, ℤ, ◌+◌, ◌==◌, Bool, true, false, List, [], ◌∷◌, ◌++◌, length, Option, Some, None, refl, sym, arith}
use Rattle.std.proofs.lemmas.Bool.Decides.{nat_tests}
use Rattle.std.proofs.lemmas.List.Elements.{All-push}
use Rattle.clause_base.specs.Clauses.{Clauses}
use Rattle.clause_base.specs.declared.line.Line.{Line}
use Rattle.clause_base.specs.Refutation.{Derived}
use Rattle.clause_base.specs.TruthValues.{clause_holds, AllHold}
use Rattle.clause_base.proofs.DerivedLemmas.{derived_holds}
use Rattle.ref_text.specs.Form.{form}
use Rattle.ref_text.specs.Fault.{text_fault, line_of, is_empty}
use Rattle.ref_text.specs.declared.why.Why.{Why}
use Rattle.ref_text.proofs.RightLemmas.{text_right}
use Rattle.refute_check.specs.Check.{lines_of, or_hints, line_fault, with_line, or_further, progress, verdict_of, check}
use Rattle.refute_check.specs.declared.checked.Checked.TheVariants as checked
use Rattle.refute_check.proofs.DeriveLemmas.{tells}

-- a line that is not refused is derived
pub line_derived : (list : Clauses) (over : Bool) (line : List ℕ) → line_fault list over line ≡ None → Derived list (line_of (form line))
line_derived list over line e = by (text_fault (length list.clauses + 1) list.vars over line) refl e
  where
    by : (o : Option Why) → text_fault (length list.clauses + 1) list.vars over line ≡ o → or_hints list (line_of (form line)) o ≡ None
        → Derived list (line_of (form line))
    by (Some w) is h = cc
    by None is h =
        let right = text_right (length list.clauses + 1) list.vars over line is in
        (tells list (line_of (form line)) None right.above right.in_range right.apart right.some
        (λ k d lt. ((right.hints k d lt).0, omega (arith, (right.hints k d lt).1))) (sym h)).ok refl

empty_fails : (values : ℕ → Bool) (line : Line) → is_empty line ≡ true → clause_holds values line.clause ≡ true → ⊥
empty_fails values line e h = by line.clause e h
  where
    by : (c : List ℤ) → (length c == 0) ≡ true → clause_holds values c ≡ true → ⊥
    by [] e h = let same : false ≡ true = h in cc
    by (z ∷ zs) e h = absurd (grind (arith, nat_tests))

-- no line without literals is reached where the clauses are true
progress_sound : (values : ℕ → Bool) (parts : List (List ℕ)) (list : Clauses) (count : ℕ) (over : Bool) → AllHold values list.clauses
    → (over ≡ true → ⊥) → (progress list count over parts).over ≡ true → ⊥
unfolding progress
progress_sound values [] list count over all not_over e = not_over e
progress_sound values (rest ∷ []) list count over all not_over e = not_over e
progress_sound values (line ∷ (next ∷ parts)) list count over all not_over e = by (line_fault list over line) refl
    (λ more not_empty h. progress_sound values (next ∷ parts) (with_line list (line_of (form line))) (count + 1)
    (is_empty (line_of (form line))) more not_empty h) e
  where
    by : (o : Option Why) → line_fault list over line ≡ o →
        (AllHold values (list.clauses ++ (line_of (form line)).clause ∷ []) → (is_empty (line_of (form line)) ≡ true → ⊥)
        → (progress (with_line list (line_of (form line))) (count + 1) (is_empty (line_of (form line))) (next ∷ parts)).over ≡ true → ⊥) →
        (or_further count over o
        (progress (with_line list (line_of (form line))) (count + 1) (is_empty (line_of (form line))) (next ∷ parts))).over ≡ true → ⊥
    by (Some w) is further h = not_over h
    by None is further h =
        let holds = derived_holds values list (line_of (form line)) all (line_derived list over line is) in
        further (All-push (λ c. clause_holds values c ≡ true) list.clauses (line_of (form line)).clause all holds)
        (λ empty. empty_fails values (line_of (form line)) empty holds) h

refutes_over : (count : ℕ) (over : Bool) (bad : Option Why) (begun : Bool) (k : ℕ) → verdict_of count over bad begun ≡ checked.Refutes k
    → over ≡ true
refutes_over count over (Some w) begun k e = cc
refutes_over count over None true k e = cc
refutes_over count true None false k e = refl
refutes_over count false None false k e = cc

-- a list that a text refutes is made true by no values
pub refuted_fails : (values : ℕ → Bool) (list : Clauses) (bytes : List ℕ) (k : ℕ) → check list bytes ≡ checked.Refutes k
    → AllHold values list.clauses → ⊥
refuted_fails values list bytes k e all =
    let p = progress list 0 false (lines_of bytes) in
    progress_sound values (lines_of bytes) list 0 false all (λ h. cc) (refutes_over p.count p.over p.bad p.begun k e)
