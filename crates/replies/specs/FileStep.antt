-- The step of a command that loads a file: its bytes, or the reply that ends the command (this project's own choice).
use Rattle.std.specs.Prelude.{ℕ, ◌≡◌, ◌≤◌, ◌<◌, ◌-◌, ◌⊎◌, List, length, Some, IsTrue, codes}
use Rattle.io_base.specs.Causes.{Rose}
use Rattle.io_base.specs.Shelf.{ShelfState, GoesOn, CountsTaken, CountsNoChange}
use Rattle.io_base.specs.Loading.{TookMore, ExplainsFault}
use Rattle.io_base.specs.declared.loading.LoadFault.TheVariants as fault
use Rattle.replies.specs.Texts.{Refuses, Unread}
use Rattle.replies.specs.declared.status.Status.{Status}

-- these are the bytes that were read under a name: where the shelf tells its files, the file's; just they were taken,
-- no read told that the name is absent, and no call failed
pub record HasFile (name : List ℕ) (limit : ℕ) (old new : ShelfState) (bytes : List ℕ) : Type 0 where
  pub fits : length bytes ≤ limit
  pub told : IsTrue old.tells → old.file name ≡ Some bytes
  pub counted : CountsTaken old new (length bytes)
  pub same : new.file ≡ old.file
  pub last_failed : new.last_failed ≡ old.last_failed
  pub faults : new.faults ≡ old.faults
  pub no_change : CountsNoChange old new
  pub goes_on : GoesOn old new

-- a read answered that the name is not there, and no call failed
pub record NoFile (name : List ℕ) (limit : ℕ) (old new : ShelfState) (s : Status) (text : List ℕ) : Type 0 where
  pub reply : Refuses name (codes "NoFile") s text
  pub absent : Rose old.absent new.absent
  pub last_failed : new.last_failed ≡ old.last_failed
  pub faults : new.faults ≡ old.faults
  pub told : IsTrue old.tells → ExplainsFault (old.file name) limit fault.NoFile

-- the file has more bytes than the limit, and no call failed
pub record TooLong (name : List ℕ) (limit : ℕ) (old new : ShelfState) (s : Status) (text : List ℕ) : Type 0 where
  pub reply : Refuses name (codes "TooLong") s text
  pub took_more : TookMore old new limit
  pub last_failed : new.last_failed ≡ old.last_failed
  pub faults : new.faults ≡ old.faults
  pub told : IsTrue old.tells → ExplainsFault (old.file name) limit fault.TooLong

-- the last call on the shelf that failed was a read of this file, in this step
pub record CannotRead (name : List ℕ) (old new : ShelfState) (s : Status) (text : List ℕ) : Type 0 where
  pub reply : Unread name s text
  pub rose : Rose old.faults new.faults
  pub named : new.last_failed ≡ name

-- the reply where a file was not loaded: its reason, and what it must be where a read told that the name is absent, or
-- where more bytes than the limit were taken; no file was begun or grown
pub record FileReply (name : List ℕ) (limit : ℕ) (old new : ShelfState) (s : Status) (text : List ℕ) : Type 0 where
  pub reason : NoFile name limit old new s text ⊎ TooLong name limit old new s text ⊎ CannotRead name old new s text
  pub absent : old.absent < new.absent → NoFile name limit old new s text
  pub too_long : limit < new.taken - old.taken → TooLong name limit old new s text
  pub no_change : CountsNoChange old new
  pub goes_on : GoesOn old new
