-- What a look at one clause tells, and what one pass over all clauses does. No public contract cites these.

use Rattle.std.specs.Prelude.{ℕ, ℤ, ◌≡◌, ◌<◌, ◌≤◌, List, length, slice_get, Some, true}
use Rattle.clause_base.specs.Truth.{lits_of, IsFalse, IsUnit, IsSettled, HasTwo, AreSettled, IsConflict}
use Rattle.trail.specs.Assignment.{value_of}
use Rattle.propagate.specs.Watching.{IsIn}
use Rattle.clause_base.specs.declared.entry.Entry.{Entry}
use Rattle.propagate.specs.declared.clause_status.ClauseStatus.{ClauseStatus}
use Rattle.propagate.specs.declared.clause_status.ClauseStatus.TheVariants as status
use Rattle.propagate.specs.declared.scan.Change.{Change}
use Rattle.propagate.specs.declared.scan.Change.TheVariants as change
use Rattle.propagate.specs.declared.scan.Scan.{Scan}
use Rattle.propagate.specs.declared.scan.Scan.TheVariants as scan

-- what a clause is under these entries
abbrev pub HasStatus : List Entry → List ℤ → ClauseStatus → Type 0
HasStatus es clause (status.True z) = IsIn clause z × (value_of z es ≡ Some true)
HasStatus es clause (status.Two a b) = (t : HasTwo (lits_of es) clause) × (t.lit ≡ a) × (t.other ≡ b)
HasStatus es clause (status.Unit z) = IsUnit (lits_of es) clause z
HasStatus es clause status.False = IsFalse (lits_of es) clause

-- what one clause did to the entries
abbrev pub Changes : List Entry → List Entry → List ℤ → Change → Type 0
Changes old new clause change.Quiet = (new ≡ old) × IsSettled (lits_of old) clause
Changes old new clause change.Implied = length old < length new
Changes old new clause change.False = (new ≡ old) × IsFalse (lits_of old) clause

-- what one pass over the clauses from a place on did to the entries
abbrev pub Scans : List (List ℤ) → ℕ → List Entry → List Entry → Scan → Type 0
Scans clauses from old new scan.Quiet =
    (new ≡ old) × ((n : ℕ) (clause : List ℤ) → from ≤ n → slice_get clauses n ≡ Some clause → IsSettled (lits_of new) clause)
Scans clauses from old new scan.Implied = length old < length new
Scans clauses from old new (scan.Conflict n) = IsConflict (lits_of new) clauses n

-- what one turn of propagation did to the entries
abbrev pub Turns : List (List ℤ) → List Entry → List Entry → Scan → Type 0
Turns clauses old new scan.Quiet = AreSettled (lits_of new) clauses
Turns clauses old new scan.Implied = length old < length new
Turns clauses old new (scan.Conflict n) = IsConflict (lits_of new) clauses n
