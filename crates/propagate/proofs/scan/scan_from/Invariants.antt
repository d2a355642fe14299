use Rattle.std.proofs.Common.{◌≡◌, ◌<◌, ◌≤◌, ℕ, ℤ, List, length, true, false, Some}
use Rattle.std.specs.Prelude.{slice_get}
use Rattle.clause_base.specs.Truth.{lits_of, IsSettled}
use Rattle.propagate.specs.Standing.{AreForced}
use Rattle.propagate.specs.Propagation.{Extends}
use Rattle.propagate.proofs.scan.scan_from.Given as goal

abbrev pub invariant-loop-index : goal.invariant-loop-index
invariant-loop-index l = record {
  vars : l.trail.vars ≡ l.list.vars;
  forced : AreForced l.list.clauses l.trail.entries;
  extends : Extends l.initial.trail.entries l.trail.entries;
  same : l.implied ≡ false → l.trail.entries ≡ l.initial.trail.entries;
  settled : l.implied ≡ false → (n : ℕ) (clause : List ℤ) → l.from ≤ n → n < l.index → slice_get l.list.clauses n ≡ Some clause
      → IsSettled (lits_of l.trail.entries) clause;
  longer : l.implied ≡ true → length l.initial.trail.entries < length l.trail.entries;
}
