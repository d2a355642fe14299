-- What becomes of a placement: its files are saved, read back and run, in this order (this project's own choice).
use Rattle.std.specs.Prelude.{ℕ, ◌≡◌, ◌⊎◌, List}
use Rattle.io_base.specs.Shelf.{ShelfState, GoesOn, CountsNoRead, CountsNoChange}
use Rattle.mcu_jumps.specs.Position.{Position}
use Rattle.flow_graph.specs.Graph.{Graph}
use Rattle.saved_files.specs.SavedFile.{SavedFile}
use Rattle.saved_files.specs.Saving.{IsSaved, FailedAt, TakesOneEach, TakesOneUpTo}
use Rattle.saved_files.specs.Unsaved.{cannot_save}
use Rattle.replies.specs.Texts.{no_memory}
use Rattle.replies.specs.declared.status.Status.{Status}
use Rattle.replies.specs.declared.status.Status.TheVariants as status
use Rattle.bench_answers.specs.PlacedFiles.{PlacesFiles}
use Rattle.bench_answers.specs.RunOrder.{RunOrder}
use Rattle.bench_answers.specs.ReadingBack.{BackReply, MayRun, Wants}

-- a file was not saved, and is told; no later file was begun, the file took no more than one create and one append, and
-- nothing was read
pub record CannotSave (files : List SavedFile) (old new : ShelfState) (s : Status) (text : List ℕ) : Type 0 where
  pub place : ℕ
  pub failed : FailedAt old new files place
  pub up_to : TakesOneUpTo old new place
  pub no_read : CountsNoRead old new
  pub status_is : s ≡ status.ShelfFault
  pub text_is : text ≡ cannot_save new.last_failed

-- all files were saved, without a fault or a read, each by one create and one append, and up to a later state no file
-- changed and none was begun or grown
pub record AreSaved (files : List SavedFile) (old new : ShelfState) : Type 0 where
  pub after : ShelfState
  pub saved : IsSaved old after files
  pub each_once : TakesOneEach old after files
  pub no_read : CountsNoRead old after
  pub goes_on : GoesOn old after
  pub same : new.file ≡ after.file
  pub no_change : CountsNoChange after new

-- all files were saved, and then read back
pub record SavesAndReplies (order : RunOrder) (files : List SavedFile) (old new : ShelfState) (s : Status) (text : List ℕ)
    : Type 0 where
  pub all : AreSaved files old new
  pub back : BackReply order all.after new s text

-- all files were saved, and then memory was refused
pub record WantsSaved (order : RunOrder) (files : List SavedFile) (old new : ShelfState) (s : Status) (text : List ℕ) : Type 0 where
  pub all : AreSaved files old new
  pub wants : Wants (MayRun order all.after new) s text

-- memory was refused before the first file was begun, and the shelf is as it was
pub record WantsUnsaved (old new : ShelfState) (s : Status) (text : List ℕ) : Type 0 where
  pub status_is : s ≡ status.NoMemory
  pub text_is : text ≡ no_memory
  pub same : new ≡ old

-- what becomes of these files, once the first is begun
abbrev pub FilesAnswer : RunOrder → List SavedFile → ShelfState → ShelfState → Status → List ℕ → Type 0
FilesAnswer order files old new s text =
    CannotSave files old new s text
    ⊎ SavesAndReplies order files old new s text
    ⊎ WantsSaved order files old new s text

-- the files of the placement were made, and became this
pub record IsPlaced (order : RunOrder) (g : Graph) (place : List Position) (old new : ShelfState) (s : Status) (text : List ℕ)
    : Type 0 where
  pub files : List SavedFile
  pub placed : PlacesFiles order.out g place files
  pub answer : FilesAnswer order files old new s text

-- an answer of this kind, or that memory was refused before the first file was begun
abbrev pub UnlessUnsaved : ShelfState → ShelfState → (Status → List ℕ → Type 0) → Status → List ℕ → Type 0
UnlessUnsaved old new answer s text = WantsUnsaved old new s text ⊎ answer s text

-- what becomes of a placement of a program, and of a script's bytes
abbrev pub PlacedAnswer : RunOrder → Graph → List Position → ShelfState → ShelfState → Status → List ℕ → Type 0
PlacedAnswer order g place old new = UnlessUnsaved old new (IsPlaced order g place old new)
