-- What `check` replies: the checker's answer for a refutation of a source's placement clauses (this project's own
-- choice).
use Rattle.std.specs.Prelude.{ℕ, ◌≡◌, ◌-◌, ◌<◌, ◌⊎◌, List, IsTrue, Ok, Err, codes}
use Rattle.io_base.specs.Shelf.{ShelfState, GoesOn, CountsNoChange}
use Rattle.io_base.specs.Loading.{TookMore}
use Rattle.mcu_jumps.specs.Position.{Position}
use Rattle.flow_graph.specs.Graph.{Graph}
use Rattle.place_model.specs.Legal.{IsLegal}
use Rattle.clause_encode.specs.PlacementList.{list_of}
use Rattle.refute_check.specs.Taken.{Explains, IsOfBytes}
use Rattle.refute_check.specs.declared.checked.Checked.{Checked}
use Rattle.refute_check.specs.declared.checked.Checked.TheVariants.{Refutes}
use Rattle.refute_check.specs.declared.checked.CheckFault.TheVariants as fault
use Rattle.refute_check.specs.declared.files.TheConstants.{REFUTATION_LIMIT}
use Rattle.replies.specs.Texts.{Refuses}
use Rattle.replies.specs.FileStep.{NoFile, CannotRead}
use Rattle.replies.specs.SourceStep.{HasSource, SourceReply}
use Rattle.replies.specs.declared.status.Status.{Status}
use Rattle.micro_cli.specs.CheckerText.{TellsAnswer}

-- the most bytes of a refutation
abbrev pub refutation_limit : ℕ
refutation_limit = REFUTATION_LIMIT

-- the checker's answer is told, and no call failed: it is decided by the bytes that were taken, and where the shelf
-- tells its files, by the file; where it is that the file is a refutation, the program has no legal placement
pub record IsAnswer (name : List ℕ) (g : Graph) (old new : ShelfState) (s : Status) (text : List ℕ) : Type 0 where
  pub answer : Checked
  pub reply : TellsAnswer answer s text
  pub of_bytes : IsOfBytes refutation_limit (list_of g) old new (Ok answer)
  pub told : IsTrue old.tells → Explains (old.file name) refutation_limit (list_of g) (Ok answer)
  pub refuted : (count : ℕ) → answer ≡ Refutes count → (place : List Position) → IsLegal g place → ⊥
  pub last_failed : new.last_failed ≡ old.last_failed
  pub faults : new.faults ≡ old.faults

-- the file has more bytes than the limit, no line that ends within them is refused, and no call failed
pub record IsTooLong (name : List ℕ) (g : Graph) (old new : ShelfState) (s : Status) (text : List ℕ) : Type 0 where
  pub reply : Refuses name (codes "TooLong") s text
  pub took_more : TookMore old new refutation_limit
  pub of_bytes : IsOfBytes refutation_limit (list_of g) old new (Err fault.TooLong)
  pub told : IsTrue old.tells → Explains (old.file name) refutation_limit (list_of g) (Err fault.TooLong)
  pub last_failed : new.last_failed ≡ old.last_failed
  pub faults : new.faults ≡ old.faults

-- the reply to a program and the file of this name: the checker's answer, or why there is none. It is that the name
-- is absent where a read told so; and where more bytes than the limit were taken, that the file is too long, or an
-- answer that the bytes within the limit decide. No file was begun or grown.
pub record RefutationReply (name : List ℕ) (g : Graph) (old new : ShelfState) (s : Status) (text : List ℕ) : Type 0 where
  pub reason :
      IsAnswer name g old new s text
      ⊎ NoFile name refutation_limit old new s text
      ⊎ IsTooLong name g old new s text
      ⊎ CannotRead name old new s text
  pub absent : old.absent < new.absent → NoFile name refutation_limit old new s text
  pub too_long : refutation_limit < new.taken - old.taken → IsTooLong name g old new s text ⊎ IsAnswer name g old new s text
  pub no_change : CountsNoChange old new
  pub goes_on : GoesOn old new

-- the source is a program, and this is the reply to it and the refutation
pub record ChecksSource (src refutation : List ℕ) (old new : ShelfState) (s : Status) (text : List ℕ) : Type 0 where
  pub g : Graph
  pub mid : ShelfState
  pub source : HasSource src old mid g
  pub reply : RefutationReply refutation g mid new s text

-- the reply of `check SRC REF`: that no program comes of the source, or what the refutation is to its program
abbrev pub CheckReply : List ℕ → List ℕ → ShelfState → ShelfState → Status → List ℕ → Type 0
CheckReply src refutation old new s text = SourceReply src old new s text ⊎ ChecksSource src refutation old new s text
