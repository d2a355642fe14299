-- What stands after one file was written, piece by piece, and after a fault in that. This project's own choice.
use Rattle.std.specs.Prelude.{ℕ, ◌≡◌, ◌⊎◌, List, take, Option, Some}
use Rattle.io_base.specs.Causes.{Rose}
use Rattle.io_base.specs.Shelf.{ShelfState, GoesOn, CountsNoRead, KeepsOthers, IsTold}

-- a file is as it was, absent if it was absent, or holds a prefix of this text
abbrev pub IsPart : Option (List ℕ) → Option (List ℕ) → List ℕ → Type 0
IsPart old new text = (new ≡ old) ⊎ ((n : ℕ) × (new ≡ Some (take n text)))

-- since the start no other file changed, and no read was counted
pub record WritesOnly (start now : ShelfState) (name : List ℕ) : Type 0 where
  pub goes_on : GoesOn start now
  pub no_read : CountsNoRead start now
  pub others : KeepsOthers start now name

-- this file alone was written since the start, without a fault, and holds just this text
pub record IsWritten (start now : ShelfState) (name text : List ℕ) : Type 0 where
  pub only : WritesOnly start now name
  pub last_failed : now.last_failed ≡ start.last_failed
  pub faults : now.faults ≡ start.faults
  pub whole : IsTold start → now.file name ≡ Some text

-- this file alone was written since the start, a call on it failed at last, and it is as it was or holds a prefix of
-- this text
pub record IsUnwritten (start now : ShelfState) (name text : List ℕ) : Type 0 where
  pub only : WritesOnly start now name
  pub rose : Rose start.faults now.faults
  pub last_failed : now.last_failed ≡ name
  pub part : IsTold start → IsPart (start.file name) (now.file name) text
