-- What stands after files were saved in their order, and after a fault in that. This project's own choice.
use Rattle.std.specs.Prelude.{ℕ, ◌≡◌, ◌≢◌, ◌<◌, ◌≤◌, ◌+◌, ◌⊎◌, List, length, Some, slice_get}
use Rattle.io_base.specs.declared.names.TheConstants.{NAME_LIMIT}
use Rattle.io_base.specs.Causes.{Rose}
use Rattle.io_base.specs.Shelf.{ShelfState, IsTold, CountsChanges}
use Rattle.saved_files.specs.SavedFile.{SavedFile}
use Rattle.saved_files.specs.OneFile.{IsPart}

-- each two names differ
abbrev pub AreApart : List SavedFile → Type 0
AreApart files = (i j : ℕ) (x y : SavedFile) → i < j → slice_get files i ≡ Some x → slice_get files j ≡ Some y → x.name ≢ y.name

-- each name is short enough for a shelf
abbrev pub AreShort : List SavedFile → Type 0
AreShort files = (i : ℕ) (x : SavedFile) → slice_get files i ≡ Some x → length x.name ≤ NAME_LIMIT

-- none of the first files has this name
abbrev pub IsNameOfNone : List SavedFile → ℕ → List ℕ → Type 0
IsNameOfNone files count name = (i : ℕ) (x : SavedFile) → i < count → slice_get files i ≡ Some x → x.name ≢ name

-- all but the first files stay
abbrev pub KeepsAllBut : ShelfState → ShelfState → List SavedFile → ℕ → Type 0
KeepsAllBut old new files count = (name : List ℕ) → IsNameOfNone files count name → new.file name ≡ old.file name

-- the first files stand whole
abbrev pub AreWhole : ShelfState → List SavedFile → ℕ → Type 0
AreWhole new files count = (i : ℕ) (x : SavedFile) → i < count → slice_get files i ≡ Some x → new.file x.name ≡ Some x.bytes

-- all files were saved: each stands whole, and all others stay
pub record IsSaved (old new : ShelfState) (files : List SavedFile) : Type 0 where
  pub others : KeepsAllBut old new files (length files)
  pub whole : IsTold old → AreWhole new files (length files)

-- The save of the file at this place failed: those before it stand whole, it is as it was or holds a prefix of its
-- bytes, and all others stay, those after it too. The shelf's last failed name is the file's.
pub record FailedAt (old new : ShelfState) (files : List SavedFile) (place : ℕ) : Type 0 where
  pub failed : SavedFile
  pub at : slice_get files place ≡ Some failed
  pub rose : Rose old.faults new.faults
  pub last_failed : new.last_failed ≡ failed.name
  pub others : KeepsAllBut old new files (place + 1)
  pub whole : IsTold old → AreWhole new files place
  pub part : IsTold old → IsPart (old.file failed.name) (new.file failed.name) failed.bytes

-- no call failed, and each file took one create and one append
pub record TakesOneEach (old new : ShelfState) (files : List SavedFile) : Type 0 where
  pub last_failed : new.last_failed ≡ old.last_failed
  pub faults : new.faults ≡ old.faults
  pub calls : CountsChanges old new (length files) (length files)

-- each file before this place took one create and one append, and the one at this place one create and at most one append
abbrev pub TakesOneUpTo : ShelfState → ShelfState → ℕ → Type 0
TakesOneUpTo old new place = CountsChanges old new (place + 1) place ⊎ CountsChanges old new (place + 1) (place + 1)
