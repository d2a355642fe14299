-- The first bytes of a file, up to a limit, and what they decide.

use Rattle.std.specs.Prelude.{ℕ, ◌+◌, ◌≤◌, ◌≡◌, Bool, true, false, if◌then◌else◌, IsTrue, nat_le, List, [], length, take, Option, Some, None, Result, Ok, Err}
use Rattle.clause_base.specs.Clauses.{Clauses}
use Rattle.io_base.specs.Causes.{counted}
use Rattle.io_base.specs.Loading.{TookMore}
use Rattle.io_base.specs.Shelf.{ShelfState, CountsTaken}
use Rattle.ref_text.specs.declared.why.Why.{Why}
use Rattle.refute_check.specs.Check.{Progress, lines_of, progress, check}
use Rattle.refute_check.specs.Cost.{lines_cost}
use Rattle.refute_check.specs.declared.checked.Checked.{Checked}
use Rattle.refute_check.specs.declared.checked.Checked.TheVariants as checked
use Rattle.refute_check.specs.declared.checked.CheckFault.{CheckFault}
use Rattle.refute_check.specs.declared.checked.CheckFault.TheVariants as fault

-- just these bytes were taken, or more than the limit, and these are as many as the limit
abbrev pub HasTaken : ℕ → ShelfState → ShelfState → List ℕ → Bool → Type 0
HasTaken limit old new bytes false = CountsTaken old new (length bytes)
HasTaken limit old new bytes true = (length bytes ≡ limit) × TookMore old new limit

-- the refusal of the next line, where there is a reason
abbrev pub refused_of : ℕ → Option Why → Option Checked
refused_of count None = None
refused_of count (Some why) = Some (checked.Rejected (count + 1) why)

-- the refusal that ended the whole lines, where one did; what is begun behind them is not judged
abbrev pub refusal : Progress → Option Checked
refusal p = refused_of p.count p.bad

-- what the first bytes decide, where they are all or there are more
abbrev pub decided : Clauses → List ℕ → Bool → Option Checked
decided list bytes false = Some (check list bytes)
decided list bytes true = refusal (progress list 0 false (lines_of bytes))

-- the answer for a file, none where it is longer than the limit and no line that ends within it is refused
abbrev pub check_file : ℕ → Clauses → List ℕ → Option Checked
check_file limit list file = if nat_le (length file) limit then decided list file false else decided list (take limit file) true

-- what a shelf that tells its files says of an answer
abbrev pub Explains : Option (List ℕ) → ℕ → Clauses → Result Checked CheckFault → Type 0
Explains None limit list (Ok answer) = ⊥
Explains (Some file) limit list (Ok answer) = check_file limit list file ≡ Some answer
Explains None limit list (Err fault.TooLong) = ⊥
Explains (Some file) limit list (Err fault.TooLong) = check_file limit list file ≡ None
Explains None limit list (Err fault.NoFile) = Unit {0}
Explains (Some file) limit list (Err fault.NoFile) = ⊥
Explains file limit list (Err fault.Failed) = Unit {0}
Explains file limit list (Err fault.OutOfMemory) = Unit {0}

-- what every shelf says of an answer: it is decided by bytes within the limit, just those that were taken or the
-- first of more
abbrev pub IsOfBytes : ℕ → Clauses → ShelfState → ShelfState → Result Checked CheckFault → Type 0
IsOfBytes limit list old new (Ok answer) =
    (bytes : List ℕ) × (longer : Bool) × (length bytes ≤ limit) × HasTaken limit old new bytes longer
    × (decided list bytes longer ≡ Some answer)
IsOfBytes limit list old new (Err fault.TooLong) =
    (bytes : List ℕ) × (length bytes ≤ limit) × HasTaken limit old new bytes true × (decided list bytes true ≡ None)
IsOfBytes limit list old new (Err fault.NoFile) = Unit {0}
IsOfBytes limit list old new (Err fault.Failed) = Unit {0}
IsOfBytes limit list old new (Err fault.OutOfMemory) = Unit {0}

-- the number of the last line that an answer speaks of
abbrev pub line_count : Checked → ℕ
line_count (checked.Refutes count) = count
line_count (checked.Rejected count why) = count
line_count (checked.Derived count) = count

-- the lines that may have been judged: those up to the one of the answer; at a fault those that are derived, and the next
abbrev pub lines_up_to : Clauses → Result Checked CheckFault → List (List ℕ) → List (List ℕ)
lines_up_to list (Ok answer) lines = take (line_count answer) lines
lines_up_to list (Err fault) lines = take ((progress list 0 false lines).count + 1) lines

-- the bytes at the front of a file; none where the name is not there
abbrev pub IsFront : Option (List ℕ) → List ℕ → Type 0
IsFront None bytes = bytes ≡ []
IsFront (Some file) bytes = take (length bytes) file ≡ bytes

-- just so many bytes were taken, or more than the limit, and these are as many as the limit
abbrev pub HasGiven : ℕ → ShelfState → ShelfState → List ℕ → Bool → Type 0
HasGiven limit old new bytes false = new.taken ≡ counted old.taken (length bytes)
HasGiven limit old new bytes true = (length bytes ≡ limit) × TookMore old new limit

-- bytes of a file that were taken between two states of a shelf, up to a limit, and whether more were; where the shelf
-- tells its files they are the front of the file, at a fault too
pub record IsTaken (old new : ShelfState) (name : List ℕ) (limit : ℕ) (bytes : List ℕ) (longer : Bool) : Type 0 where
  pub fits : length bytes ≤ limit
  pub told : IsTrue old.tells → IsFront (old.file name) bytes
  pub cause : HasGiven limit old new bytes longer

-- a source of these clauses gave at most those that hints name in the lines of the bytes that were taken, up to the line in
-- which the answer or the fault came
abbrev pub AsksWithin : ℕ → Clauses → ShelfState → ShelfState → List ℕ → ℕ → ℕ → Result Checked CheckFault → Type 0
AsksWithin limit list old new name before after result =
    (bytes : List ℕ) × (longer : Bool) × IsTaken old new name limit bytes longer
    × (after ≤ before + lines_cost list.clauses (lines_up_to list result (lines_of bytes)))
