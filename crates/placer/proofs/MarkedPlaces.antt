-- Marks for a place, and for the place before it.

use Rattle.std.proofs.Common.{◌≡◌, ℕ, ℤ, ◌+◌, ◌<◌, ◌≤◌, ◌⊎◌, List, Some, subst, ⊎_elim, inl, inr, arith}
use Rattle.std.specs.Prelude.{slice_get, neg_ℤ, Contains}
use Rattle.std.proofs.lemmas.Bool.{cases_lt}
use Rattle.clause_base.specs.Truth.{IsNumbered}
use Rattle.clause_base.specs.declared.entry.Entry.{Entry}
use Rattle.placer.specs.FirstPoint.{IsMarked, by_conflict, by_reason}

-- what is marked for a place is marked for each place before it
pub marked_less : (cs : List (List ℤ)) (es : List Entry) (n q r : ℕ) {i : ℕ} → r ≤ q → IsMarked cs es n q i → IsMarked cs es n r i
marked_less cs es n q r le (by_conflict i e c there named holds) = by_conflict i e c there named holds
marked_less cs es n q r le (by_reason i j e d c lt after there at m named holds) =
    by_reason i j e d c lt (omega arith) there at (marked_less cs es n q r le m) named holds

-- from a place on, being marked for it and for the place before it are the same
pub marked_high : (cs : List (List ℤ)) (es : List Entry) (n q : ℕ) {i : ℕ} → q < i → IsMarked cs es n q i → IsMarked cs es n (q + 1) i
marked_high cs es n q high (by_conflict i e c there named holds) = by_conflict i e c there named holds
marked_high cs es n q high (by_reason i j e d c lt after there at m named holds) =
    by_reason i j e d c lt (omega arith) there at (marked_high cs es n q after m) named holds

-- the reason of the entry at a place holds the negation of another entry's literal
pub record IsHeldBy (cs : List (List ℤ)) (es : List Entry) (p i : ℕ) : Type 0 where
  pub entry : Entry
  pub later : Entry
  pub clause : List ℤ
  pub there : slice_get es i ≡ Some entry
  pub at : slice_get es p ≡ Some later
  pub named : IsNumbered cs later.reason clause
  pub holds : Contains clause (neg_ℤ entry.lit)

-- one place less: what is marked besides is what the reason at that place holds, where that place is marked
pub marked_step : (cs : List (List ℤ)) (es : List Entry) (n q : ℕ) {i : ℕ} → IsMarked cs es n q i
    → IsMarked cs es n (q + 1) i ⊎ (IsMarked cs es n (q + 1) (q + 1) × IsHeldBy cs es (q + 1) i)
marked_step cs es n q (by_conflict i e c there named holds) = inl (by_conflict i e c there named holds)
marked_step cs es n q (by_reason i j e d c lt after there at m named holds) = ⊎_elim
    (λ (far : q + 1 < j). inl (by_reason i j e d c lt far there at (marked_high cs es n q after m) named holds))
    (λ (near : j ≤ q + 1).
    let same : j ≡ q + 1 = omega arith in
    let own : IsMarked cs es n (q + 1) j = marked_high cs es n q after m in
    let held : IsHeldBy cs es j i = record { entry = e; later = d; clause = c; there = there; at = at; named = named; holds = holds } in
    inr (subst (λ (k : ℕ). IsMarked cs es n (q + 1) k) same own, subst (λ (k : ℕ). IsHeldBy cs es k i) same held))
    (cases_lt (q + 1) j)
