-- What a shelf of named files means, and what its calls do to that. This project's own choice.
use Rattle.std.specs.Prelude.{ℕ, ◌≡◌, ◌≢◌, ◌≤◌, ◌<◌, ◌⊎◌, Bool, IsTrue, List, [], ◌++◌, length, take, drop, Option, None, Some, Result, Ok, Err, OnOk, OnErr}
use Rattle.io_base.specs.declared.faults.Failed.{Failed}
use Rattle.io_base.specs.Causes.{Rose, counted}

-- what a shelf means
pub record ShelfState : Type 0 where
  -- how many calls have failed
  pub faults : ℕ
  -- the name of the last call that failed, empty at first
  pub last_failed : List ℕ
  -- how many bytes its reads have given
  pub taken : ℕ
  -- how many of its reads have answered that the name is not there
  pub absent : ℕ
  -- how many calls of create were made, those that failed too
  pub creates : ℕ
  -- how many calls of append were made, those that failed too
  pub appends : ℕ
  -- whether the shelf tells its files: then reads give what stands in `file`
  pub tells : Bool
  -- whether the shelf is honest: then create and append do to their file what they say
  pub honest : Bool
  -- the bytes of the file of a name, None where the name is not there
  pub file : List ℕ → Option (List ℕ)

-- the shelf tells its files and is honest
pub record IsTold (shelf : ShelfState) : Type 0 where
  pub tells : IsTrue shelf.tells
  pub honest : IsTrue shelf.honest

-- nothing was counted on the shelf yet, and no call has failed
pub record IsUncounted (shelf : ShelfState) : Type 0 where
  pub faults : shelf.faults ≡ 0
  pub last_failed : shelf.last_failed ≡ []
  pub taken : shelf.taken ≡ 0
  pub absent : shelf.absent ≡ 0
  pub creates : shelf.creates ≡ 0
  pub appends : shelf.appends ≡ 0

-- all but the files stays
pub record SameButFiles (old new : ShelfState) : Type 0 where
  pub faults : new.faults ≡ old.faults
  pub last_failed : new.last_failed ≡ old.last_failed
  pub taken : new.taken ≡ old.taken
  pub absent : new.absent ≡ old.absent
  pub creates : new.creates ≡ old.creates
  pub appends : new.appends ≡ old.appends
  pub tells : new.tells ≡ old.tells
  pub honest : new.honest ≡ old.honest

-- what every call keeps: no count falls, and the shelf stays of its kind
pub record GoesOn (old new : ShelfState) : Type 0 where
  pub later : old.faults ≤ new.faults
  pub taken : old.taken ≤ new.taken
  pub absent : old.absent ≤ new.absent
  pub creates : old.creates ≤ new.creates
  pub appends : old.appends ≤ new.appends
  pub tells : new.tells ≡ old.tells
  pub honest : new.honest ≡ old.honest

-- a call with this name failed only where the count of faults rose, and is then the last that failed; a call that did
-- not fail leaves both as they were
pub record HasCause {T : Type 0} (old new : ShelfState) (name : List ℕ) (result : Result T Failed) : Type 0 where
  pub rose : OnErr result (Rose old.faults new.faults)
  pub named : OnErr result (new.last_failed ≡ name)
  pub kept : OnOk result (new.last_failed ≡ old.last_failed)
  pub calm : OnOk result (new.faults ≡ old.faults)

-- so many bytes were taken, and no read answered that a name is not there
pub record CountsTaken (old new : ShelfState) (n : ℕ) : Type 0 where
  pub taken : new.taken ≡ counted old.taken n
  pub absent : new.absent ≡ old.absent

-- the counts of reads stand as they did
pub record CountsNoRead (old new : ShelfState) : Type 0 where
  pub taken : new.taken ≡ old.taken
  pub absent : new.absent ≡ old.absent

-- so many calls of create were made, and so many of append
pub record CountsChanges (old new : ShelfState) (begun added : ℕ) : Type 0 where
  pub creates : new.creates ≡ counted old.creates begun
  pub appends : new.appends ≡ counted old.appends added

-- no call of create or append was made
pub record CountsNoChange (old new : ShelfState) : Type 0 where
  pub creates : new.creates ≡ old.creates
  pub appends : new.appends ≡ old.appends

-- how a read with this answer is counted
abbrev pub CountsRead : ShelfState → ShelfState → Result (Option ℕ) Failed → Type 0
CountsRead old new (Ok None) = (new.taken ≡ old.taken) × (new.absent ≡ counted old.absent 1)
CountsRead old new (Ok (Some n)) = (new.taken ≡ counted old.taken n) × (new.absent ≡ old.absent)
CountsRead old new (Err _) = (new.taken ≡ old.taken) × (new.absent ≡ old.absent)

-- the first n bytes of the buffer are the file's bytes from a place on, none only at the end or where nothing fits
pub record IsReadAt (bytes : List ℕ) (at n : ℕ) (buf : List ℕ) : Type 0 where
  pub given : take n buf ≡ take n (drop at bytes)
  pub within : n ≤ length (drop at bytes)
  pub ended : n ≡ 0 → 0 < length buf → length bytes ≤ at

-- what a read of a file from a place on answers and leaves in the buffer
abbrev pub Reads : Option (List ℕ) → ℕ → Option ℕ → List ℕ → Type 0
Reads None at None buf = Unit {0}
Reads None at (Some n) buf = ⊥
Reads (Some bytes) at None buf = ⊥
Reads (Some bytes) at (Some n) buf = IsReadAt bytes at n buf

-- the files of other names stay
abbrev pub KeepsOthers : ShelfState → ShelfState → List ℕ → Type 0
KeepsOthers old new name = (other : List ℕ) → other ≢ name → new.file other ≡ old.file other

-- a name that is not there counts as an empty file
abbrev pub bytes_or_empty : Option (List ℕ) → List ℕ
bytes_or_empty None = []
bytes_or_empty (Some bytes) = bytes

-- the file of a name is now its old bytes and then the piece
abbrev pub Appends : ShelfState → ShelfState → List ℕ → List ℕ → Type 0
Appends old new name piece = new.file name ≡ Some (bytes_or_empty (old.file name) ++ piece)

-- the file of a name is as it was, or is its old bytes and then a prefix of the piece
abbrev pub AppendsPrefix : ShelfState → ShelfState → List ℕ → List ℕ → Type 0
AppendsPrefix old new name piece =
    (new.file name ≡ old.file name) ⊎ ((n : ℕ) × Appends old new name (take n piece))

-- the file of a name is as it was, or is empty
abbrev pub IsKeptOrEmpty : ShelfState → ShelfState → List ℕ → Type 0
IsKeptOrEmpty old new name = (new.file name ≡ old.file name) ⊎ (new.file name ≡ Some [])
