-- The worked examples of `specs/Examples` hold.

use Rattle.std.proofs.Common.{◌≡◌, ◌≢◌, ◌-◌, ◌<◌, ◌++◌, ℕ, zero, suc, ℤ, pos, negsuc, false, List, [], ◌∷◌, take, Option, Some, None, refl, sym, ap, subst, inr, arith, lit<}
use Rattle.std.specs.Prelude.{slice_get, AllPairs}
use Rattle.std.proofs.lemmas.List.Elements.{All-nil, All-cons}
use Rattle.clause_base.specs.Truth.{value_in, IsFalse, IsSettled, AreSettled, Forces, IsConflict, lits_of}
use Rattle.clause_base.specs.Clauses.{Clauses}
use Rattle.clause_base.specs.Refutation.{IsUnitRun, Derived, AreDerived, Refutes, with_lines}
use Rattle.clause_base.specs.Spent.{IsClash, Spent}
use Rattle.clause_base.specs.Examples.{one_target_twice, every_pair, empty_line, decided_one}
use Rattle.clause_base.specs.declared.line.Line.{Line}
use Rattle.clause_base.specs.declared.entry.Entry.{Entry}
use Rattle.clause_base.specs.Lit.{var_of}
use Rattle.std.specs.Option.{option_map_or}

-- a clause of one literal, which is false
one_false : (held : List ℤ) (z : ℤ) → value_in z held ≡ Some false → IsFalse held (z ∷ [])
one_false held z h = All-cons (λ y. value_in y held ≡ Some false) z [] h (All-nil (λ y. value_in y held ≡ Some false))

-- a clause of two literals, which are false
two_false : (held : List ℤ) (y z : ℤ) → value_in y held ≡ Some false → value_in z held ≡ Some false → IsFalse held (y ∷ z ∷ [])
two_false held y z first second = All-cons (λ x. value_in x held ≡ Some false) y (z ∷ []) first (one_false held z second)

-- a clause whose last literal alone is unassigned, and the others are false
forces : (held : List ℤ) (clauses : List (List ℤ)) (number : ℕ) (front : List ℤ) (z : ℤ) → 0 < number
    → slice_get clauses (number - 1) ≡ Some (front ++ z ∷ []) → value_in z held ≡ None → IsFalse held front → Forces held clauses number z
forces held clauses number front z above there free before =
    record {
      clause = front ++ z ∷ [];
      numbered = record { above = above; there = there };
      unit = record {
        front = front;
        back = [];
        split = refl;
        unassigned = free;
        before = before;
        after = All-nil (λ y. value_in y held ≡ Some false);
      };
    }

-- a line with no literal and these hints is derived where they are a run from nothing
empty-derived : (list : Clauses) (hints : List ℕ) → IsUnitRun list.clauses [] hints → Derived list (empty_line hints)
empty-derived list hints run =
    record {
      above = λ k d lt. absurd (omega arith);
      in_range = λ k d lt. absurd (omega arith);
      apart = λ i j d ij lt. absurd (omega arith);
      run = run;
    }

-- the hints in their order: 33, 83 and 84 become true, and clause 4 is false
in_order : IsUnitRun one_target_twice.clauses [] (1 ∷ 2 ∷ 3 ∷ 4 ∷ [])
in_order =
    let cs : List (List ℤ) = one_target_twice.clauses in
    let column : List ℤ = pos 33 ∷ [] in
    let first : List ℤ = pos 33 ∷ pos 83 ∷ [] in
    let both : List ℤ = pos 33 ∷ pos 83 ∷ pos 84 ∷ [] in (
      pos 33,
      forces [] cs 1 [] (pos 33) (lit< tt) refl refl (All-nil _),
      (
        pos 83,
        forces column cs 2 (negsuc 32 ∷ []) (pos 83) (lit< tt) refl refl (one_false column (negsuc 32) refl),
        (
          pos 84,
          forces first cs 3 (negsuc 32 ∷ []) (pos 84) (lit< tt) refl refl (one_false first (negsuc 32) refl),
          record {
            clause = negsuc 82 ∷ negsuc 83 ∷ [];
            numbered = record { above = lit< tt; there = refl };
            all_false = two_false both (negsuc 82) (negsuc 83) refl refl;
          },
        ),
      ),
    )

-- one line that is derived and has no literal is a refutation
one-refutes : (list : Clauses) (line : Line) → Derived (with_lines list []) line → line.clause ≡ [] → Refutes list (line ∷ [])
one-refutes list line derived empty =
    record {
      derived = each;
      front = [];
      last = line;
      split = refl;
      full = λ k d lt. absurd (omega arith);
      empty = empty;
    }
  where
    each : AreDerived list (line ∷ [])
    each zero other there = let same : line ≡ other = cc in subst (Derived (with_lines list [])) same derived
    each (suc k) other there = let none : ◌≡◌ {A = Option Line} None (Some other) = there in cc

-- the line refutes
pub two_outcomes_refuted : Refutes one_target_twice (empty_line (1 ∷ 2 ∷ 3 ∷ 4 ∷ []) ∷ [])
two_outcomes_refuted =
    one-refutes one_target_twice (empty_line (1 ∷ 2 ∷ 3 ∷ 4 ∷ [])) (empty-derived one_target_twice (1 ∷ 2 ∷ 3 ∷ 4 ∷ []) in_order) refl

-- while nothing holds, a clause of two literals has two that are unassigned
two_settled : (y z : ℤ) → IsSettled [] (y ∷ z ∷ [])
two_settled y z = inr
    (record { first = 0; second = 1; lit = y; other = z; apart = lit< tt; there = refl; next = refl; unassigned = refl; too = refl })

-- so nothing is to be propagated in the four clauses
pairs_settled : AreSettled [] every_pair.clauses
pairs_settled zero c there = let same : (pos 1 ∷ pos 2 ∷ []) ≡ c = cc in subst (IsSettled []) same (two_settled (pos 1) (pos 2))
pairs_settled (suc zero) c there = let same : (negsuc 0 ∷ pos 2 ∷ []) ≡ c = cc in
    subst (IsSettled []) same (two_settled (negsuc 0) (pos 2))
pairs_settled (suc (suc zero)) c there = let same : (pos 1 ∷ negsuc 1 ∷ []) ≡ c = cc in
    subst (IsSettled []) same (two_settled (pos 1) (negsuc 1))
pairs_settled (suc (suc (suc zero))) c there = let same : (negsuc 0 ∷ negsuc 1 ∷ []) ≡ c = cc in
    subst (IsSettled []) same (two_settled (negsuc 0) (negsuc 1))
pairs_settled (suc (suc (suc (suc n)))) c there = let none : ◌≡◌ {A = Option (List ℤ)} None (Some c) = there in cc

-- 1 and 2 hold, so clause 4 is false
pairs_clash : IsClash every_pair.clauses decided_one
pairs_clash = record {
  apart = apart;
  decided = (0, record { lit = pos 1; level = 1; reason = 0 }, lit< tt, refl, refl);
  implied = implied;
  conflict = conflict;
}
  where
    apart : AllPairs (λ a b. var_of a ≢ var_of b) (lits_of decided_one.steps)
    apart zero zero d lt within = absurd (omega arith)
    apart zero (suc zero) d lt within = λ h. absurd (omega arith)
    apart zero (suc (suc j)) d lt within = absurd (omega arith)
    apart (suc i) zero d lt within = absurd (omega arith)
    apart (suc i) (suc zero) d lt within = absurd (omega arith)
    apart (suc i) (suc (suc j)) d lt within = absurd (omega arith)

    implied : (i : ℕ) (e : Entry) → slice_get decided_one.steps i ≡ Some e → 0 < e.reason
        → Forces (lits_of (take i decided_one.steps)) every_pair.clauses e.reason e.lit
    implied zero e there above = let same : e.reason ≡ 0 = ap (λ o. option_map_or (λ (x : Entry). x.reason) o 0) (sym there) in
        absurd (omega arith)
    implied (suc zero) e there above =
        let second : Entry = record { lit = pos 2; level = 1; reason = 2 } in
        let same : second ≡ e = cc in
        subst (λ (x : Entry). Forces (pos 1 ∷ []) every_pair.clauses x.reason x.lit) same
        (forces (pos 1 ∷ []) every_pair.clauses 2 (negsuc 0 ∷ []) (pos 2) (lit< tt) refl refl
        (one_false (pos 1 ∷ []) (negsuc 0) refl))
    implied (suc (suc i)) e there above = let none : ◌≡◌ {A = Option Entry} None (Some e) = there in cc

    conflict : IsConflict (lits_of decided_one.steps) every_pair.clauses 4
    conflict =
        record {
          clause = negsuc 0 ∷ negsuc 1 ∷ [];
          numbered = record { above = lit< tt; there = refl };
          all_false = two_false (pos 1 ∷ pos 2 ∷ []) (negsuc 0) (negsuc 1) refl refl;
        }

-- no line was allowed, and the clash comes after one decision
pub no_line_spent : Spent every_pair [] decided_one 0
no_line_spent = record {
  count = refl;
  derived = λ k line there. none line there;
  full = λ k d lt. absurd (omega arith);
  new = λ k line there. λ n c at held. none line there;
  ends = pairs_clash;
  settled = settled;
}
  where
    none : {A : Type 0} (line : Line) → ◌≡◌ {A = Option Line} None (Some line) → A
    none line h = cc

    settled : (i : ℕ) (e : Entry) → slice_get decided_one.steps i ≡ Some e → e.reason ≡ 0
        → AreSettled (lits_of (take i decided_one.steps)) every_pair.clauses
    settled zero e there is = pairs_settled
    settled (suc zero) e there is = let same : 2 ≡ e.reason = ap (λ o. option_map_or (λ (x : Entry). x.reason) o 0) there in
        absurd (omega arith)
    settled (suc (suc i)) e there is = let no_entry : ◌≡◌ {A = Option Entry} None (Some e) = there in cc
