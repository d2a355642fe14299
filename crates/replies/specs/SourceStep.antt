-- The step of a command that reads a source: its program, or the reply that ends the command (this project's own
-- choice).
use Rattle.std.specs.Prelude.{ℕ, ◌≡◌, ◌⊎◌, List, Ok, Err}
use Rattle.replies.specs.declared.source_step.TheConstants.{SOURCE_LIMIT}
use Rattle.io_base.specs.Shelf.{ShelfState}
use Rattle.field_decl.specs.declared.fault.AsmKind.{AsmKind}
use Rattle.flow_graph.specs.Graph.{Graph}
use Rattle.micro_asm.specs.Source.{source_of}
use Rattle.replies.specs.Texts.{Refuses, line_reason}
use Rattle.replies.specs.KindTexts.{asm_text}
use Rattle.replies.specs.FileStep.{HasFile, FileReply}
use Rattle.replies.specs.declared.status.Status.{Status}

-- the most bytes of a source
abbrev pub source_limit : ℕ
source_limit = SOURCE_LIMIT

-- a line of a source or of a layout is refused
abbrev pub RefusesLine : List ℕ → ℕ → AsmKind → Status → List ℕ → Type 0
RefusesLine name line kind s text = Refuses name (line_reason line (asm_text kind)) s text

-- the source of this name is this program
pub record HasSource (src : List ℕ) (old new : ShelfState) (g : Graph) : Type 0 where
  pub bytes : List ℕ
  pub file : HasFile src source_limit old new bytes
  pub meant : source_of bytes ≡ Ok g

-- the source was read, and its first refused line is told
pub record RefusesSource (src : List ℕ) (old new : ShelfState) (s : Status) (text : List ℕ) : Type 0 where
  pub bytes : List ℕ
  pub file : HasFile src source_limit old new bytes
  pub line : ℕ
  pub kind : AsmKind
  pub meant : source_of bytes ≡ Err (line, kind)
  pub told : RefusesLine src line kind s text

-- the reply where a source gives no program
abbrev pub SourceReply : List ℕ → ShelfState → ShelfState → Status → List ℕ → Type 0
SourceReply src old new s text = FileReply src source_limit old new s text ⊎ RefusesSource src old new s text
