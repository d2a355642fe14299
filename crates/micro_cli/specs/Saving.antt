-- What becomes of the one file of a search that found no placement (this project's own choice).
use Rattle.std.specs.Prelude.{ℕ, ◌≡◌, ◌≤◌, ◌⊎◌, List, [], string_bytes, vec_capacity}
use Rattle.io_base.specs.Shelf.{ShelfState, CountsNoRead}
use Rattle.saved_files.specs.SavedFile.{SavedFile}
use Rattle.saved_files.specs.Saving.{IsSaved, TakesOneEach}
use Rattle.replies.specs.declared.status.Status.{Status}
use Rattle.bench_answers.specs.Placed.{CannotSave}
use Rattle.micro_cli.specs.declared.answer_files.AnswerFile.{AnswerFile}

-- the files were saved, without a fault or a read, each by one create and one append, and a line is told with a status
pub record SavesAndTells (files : List SavedFile) (status : Status) (line : List ℕ) (old new : ShelfState) (s : Status) (text : List ℕ)
    : Type 0 where
  pub saved : IsSaved old new files
  pub each_once : TakesOneEach old new files
  pub no_read : CountsNoRead old new
  pub status_is : s ≡ status
  pub text_is : text ≡ line

-- the files were saved, which is told by this status and line; or one was not saved, and that is told
abbrev pub SavesOrCannot : List SavedFile → Status → List ℕ → ShelfState → ShelfState → Status → List ℕ → Type 0
SavesOrCannot files status line old new s text = CannotSave files old new s text ⊎ SavesAndTells files status line old new s text

-- a file of this name and these bytes is ready to be saved and told by this line, whether or not its saving fails
pub record IsReady (file : AnswerFile) (name bytes line : List ℕ) : Type 0 where
  pub name_is : string_bytes file.name ≡ name
  pub text_is : file.text.items ≡ bytes
  pub told_is : file.told.items ≡ line
  pub empty : file.unsaved.items ≡ []
  pub room : 240 ≤ vec_capacity file.unsaved
