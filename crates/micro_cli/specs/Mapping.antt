-- What `map` replies (this project's own choice).
use Rattle.std.specs.Prelude.{ℕ, ◌≡◌, ◌⊎◌, List, codes}
use Rattle.io_base.specs.Shelf.{ShelfState}
use Rattle.mcu_jumps.specs.Position.{Position}
use Rattle.flow_graph.specs.Graph.{Graph}
use Rattle.place_model.specs.Legal.{IsLegal}
use Rattle.place_model.specs.MapText.{IsMapText}
use Rattle.place_model.specs.Pinned.{ArePinnedCells, IsRefusal}
use Rattle.place_model.specs.declared.faults.MapKind.{MapKind}
use Rattle.place_model.specs.declared.faults.MapKind.TheVariants.{Unpinned, SameCell, RowBound, StartCell, NoJump}
use Rattle.field_decl.specs.declared.refusal.Refusal.TheVariants.{At}
use Rattle.replies.specs.Texts.{Refuses, line_reason}
use Rattle.replies.specs.SourceStep.{HasSource, SourceReply}
use Rattle.replies.specs.declared.status.Status.{Status}
use Rattle.replies.specs.declared.status.Status.TheVariants as status

-- the name of what is wrong with the pinned cells
abbrev pub map_kind_name : MapKind → List ℕ
map_kind_name Unpinned = codes "Unpinned"
map_kind_name SameCell = codes "SameCell"
map_kind_name RowBound = codes "RowBound"
map_kind_name StartCell = codes "StartCell"
map_kind_name NoJump = codes "NoJump"

-- the map of the program at the cells of its pins
pub record HasMap (g : Graph) (s : Status) (text : List ℕ) : Type 0 where
  pub status_is : s ≡ status.Done
  pub place : List Position
  pub pinned : ArePinnedCells g place
  pub legal : IsLegal g place
  pub map : IsMapText g place text

-- the pins give no legal placement: the line of the instruction at fault, and what is wrong there
pub record RefusesPins (src : List ℕ) (g : Graph) (s : Status) (text : List ℕ) : Type 0 where
  pub line : ℕ
  pub kind : MapKind
  pub refusal : IsRefusal g (At line kind)
  pub reply : Refuses src (line_reason line (map_kind_name kind)) s text

-- the reply to a program
abbrev pub ProgramReply : List ℕ → Graph → Status → List ℕ → Type 0
ProgramReply src g s text = HasMap g s text ⊎ RefusesPins src g s text

-- the reply of `map SRC`: that no program comes of the source, or what becomes of its program
abbrev pub MapReply : List ℕ → ShelfState → ShelfState → Status → List ℕ → Type 0
MapReply src old new s text =
    SourceReply src old new s text
    ⊎ ((g : Graph) × HasSource src old new g × ProgramReply src g s text)
