-- Which files a command leaves as they were (this project's own choice).
use Rattle.std.specs.Prelude.{ℕ, ◌≡◌, ◌≢◌, List, Option, Some}
use Rattle.io_base.specs.Shelf.{ShelfState, CountsNoChange}
use Rattle.saved_files.specs.FileNames.{refutation_name, undecided_name}
use Rattle.bench_answers.specs.PlacedFiles.{IsOtherName}
use Rattle.micro_cli.specs.Command.{Command, make}

-- none of the names under which a placement, a refutation or a spent budget is saved
pub record IsNoAnswerName (out name : List ℕ) : Type 0 where
  pub no_placement : IsOtherName out name
  pub no_refutation : name ≢ refutation_name out
  pub no_spent_budget : name ≢ undecided_name out

-- all files of other names stay
abbrev pub KeepsAllButAnswers : List ℕ → ShelfState → ShelfState → Type 0
KeepsAllButAnswers out old new = (name : List ℕ) → IsNoAnswerName out name → new.file name ≡ old.file name

-- no file changed, and none was begun or grown
pub record LeavesAll (old new : ShelfState) : Type 0 where
  pub same : new.file ≡ old.file
  pub no_change : CountsNoChange old new

-- `make` leaves all files but those that it may save; every other command, and words that are none, leave all
abbrev pub Keeps : Option Command → ShelfState → ShelfState → Type 0
Keeps (Some (make src script out clocks conflicts)) old new = KeepsAllButAnswers out old new
Keeps _ old new = LeavesAll old new
