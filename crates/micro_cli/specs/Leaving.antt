-- How `make` leaves the files and the counts of a shelf, whatever it ends with, for a reader who does not unfold its
-- answer. Each promise speaks of any shelf, and what `IsSaved` and `FailedAt` say of bytes, of one that tells its files
-- and is honest.
use Rattle.std.specs.Prelude.{ℕ, ◌≡◌, ◌⊎◌, List, length, Option, Some}
use Rattle.io_base.specs.Shelf.{ShelfState, CountsChanges}
use Rattle.mcu_jumps.specs.Position.{Position}
use Rattle.flow_graph.specs.Graph.{Graph}
use Rattle.saved_files.specs.SavedFile.{SavedFile}
use Rattle.saved_files.specs.FilesOfAnswers.{refuted_files, undecided_files}
use Rattle.saved_files.specs.Saving.{IsSaved, FailedAt}
use Rattle.bench_answers.specs.PlacedFiles.{PlacesFiles}
use Rattle.replies.specs.declared.status.Status.{Status}
use Rattle.replies.specs.declared.status.Status.TheVariants as status
use Rattle.micro_cli.specs.Command.{Command, make}

-- the files of a legal placement
abbrev pub ArePlacedFiles : List ℕ → List SavedFile → Type 0
ArePlacedFiles out files = (g : Graph) × (place : List Position) × PlacesFiles out g place files

-- files that `make` saves: those of a legal placement, or the one of a refutation or of a spent budget
abbrev pub AreAnswerFiles : List ℕ → List SavedFile → Type 0
AreAnswerFiles out files =
    ArePlacedFiles out files
    ⊎ ((bytes : List ℕ) × (files ≡ refuted_files out bytes))
    ⊎ ((bytes : List ℕ) × (files ≡ undecided_files out bytes))

-- files of an answer were saved, or the save of one of them failed and none after it was begun
abbrev pub SavesOrFails : List ℕ → ShelfState → ShelfState → Type 0
SavesOrFails out old new =
    (files : List SavedFile) × AreAnswerFiles out files × (IsSaved old new files ⊎ ((place : ℕ) × FailedAt old new files place))

-- after `make`, also after a fault of shelf or sink, no file changed, or files of an answer were saved up to the end or
-- up to a fault
abbrev pub LeavesFiles : Option Command → ShelfState → ShelfState → Type 0
LeavesFiles (Some (make src script out clocks conflicts)) old new = (new.file ≡ old.file) ⊎ SavesOrFails out old new
LeavesFiles _ old new = Unit {0}

-- where memory is refused, no file changed, or all files of a placement were saved
abbrev pub LeavesNoPart : Option Command → ShelfState → ShelfState → Status → Type 0
LeavesNoPart (Some (make src script out clocks conflicts)) old new s =
    s ≡ status.NoMemory → (new.file ≡ old.file) ⊎ ((files : List SavedFile) × ArePlacedFiles out files × IsSaved old new files)
LeavesNoPart _ old new s = Unit {0}

-- the calls of create and append that a status of `make` tells of: one each for each file of its answer
abbrev pub TakesOneOfEach : List ℕ → ShelfState → ShelfState → Status → Type 0
TakesOneOfEach out old new status.Done =
    (files : List SavedFile) × ArePlacedFiles out files × CountsChanges old new (length files) (length files)
TakesOneOfEach out old new status.Refuted = CountsChanges old new 1 1
TakesOneOfEach out old new status.Undecided = CountsChanges old new 1 1
TakesOneOfEach out old new s = Unit {0}

-- each file of an answer is begun once and grown once, and no other file is
abbrev pub SavesOnce : Option Command → ShelfState → ShelfState → Status → Type 0
SavesOnce (Some (make src script out clocks conflicts)) old new s = TakesOneOfEach out old new s
SavesOnce _ old new s = Unit {0}
