-- The step of a command that reads a layout: its declaration, or the reply that ends the command (this project's own
-- choice).
use Rattle.std.specs.Prelude.{ℕ, ◌≡◌, ◌⊎◌, List, Ok, Err}
use Rattle.io_base.specs.Shelf.{ShelfState}
use Rattle.field_decl.specs.declared.fault.AsmKind.{AsmKind}
use Rattle.field_decl.specs.Declaration.{Declaration}
use Rattle.field_decl.specs.Layout.{layout_of}
use Rattle.saved_files.specs.FileNames.{layout_name}
use Rattle.replies.specs.FileStep.{HasFile, FileReply}
use Rattle.replies.specs.SourceStep.{RefusesLine}
use Rattle.prom_files.specs.declared.layout_step.TheConstants.{LAYOUT_LIMIT}
use Rattle.replies.specs.declared.status.Status.{Status}

-- the most bytes of a layout
abbrev pub layout_limit : ℕ
layout_limit = LAYOUT_LIMIT

-- the layout of this output declares this
pub record HasLayout (out : List ℕ) (old new : ShelfState) (decl : Declaration) : Type 0 where
  pub bytes : List ℕ
  pub file : HasFile (layout_name out) layout_limit old new bytes
  pub meant : layout_of bytes ≡ Ok decl

-- the layout was read, and its first refused line is told
pub record RefusesLayout (out : List ℕ) (old new : ShelfState) (s : Status) (text : List ℕ) : Type 0 where
  pub bytes : List ℕ
  pub file : HasFile (layout_name out) layout_limit old new bytes
  pub line : ℕ
  pub kind : AsmKind
  pub meant : layout_of bytes ≡ Err (line, kind)
  pub told : RefusesLine (layout_name out) line kind s text

-- the reply where a layout gives no declaration
abbrev pub LayoutReply : List ℕ → ShelfState → ShelfState → Status → List ℕ → Type 0
LayoutReply out old new s text = FileReply (layout_name out) layout_limit old new s text ⊎ RefusesLayout out old new s text
