-- The step of a command that reads a script: what it says, or the reply that ends the command (this project's own
-- choice).
use Rattle.std.specs.Prelude.{ℕ, ◌≡◌, ◌⊎◌, List, Ok, Err}
use Rattle.replies.specs.declared.script_step.TheConstants.{SCRIPT_LIMIT}
use Rattle.io_base.specs.Shelf.{ShelfState}
use Rattle.bus_script.specs.declared.fault.ScriptKind.{ScriptKind}
use Rattle.bus_script.specs.Script.{BusScript, script_of}
use Rattle.replies.specs.Texts.{Refuses, line_reason}
use Rattle.replies.specs.KindTexts.{script_text}
use Rattle.replies.specs.FileStep.{HasFile, FileReply}
use Rattle.replies.specs.declared.status.Status.{Status}

-- the most bytes of a script
abbrev pub script_limit : ℕ
script_limit = SCRIPT_LIMIT

-- bytes that are no script for so many slices: the first refused line is told
pub record RefusesScript (name : List ℕ) (slices : ℕ) (bytes : List ℕ) (s : Status) (text : List ℕ) : Type 0 where
  pub line : ℕ
  pub kind : ScriptKind
  pub meant : script_of slices bytes ≡ Err (line, kind)
  pub reply : Refuses name (line_reason line (script_text kind)) s text

-- the script of this name, for so many slices, says this
pub record HasScript (name : List ℕ) (slices : ℕ) (old new : ShelfState) (script : BusScript) : Type 0 where
  pub bytes : List ℕ
  pub file : HasFile name script_limit old new bytes
  pub meant : script_of slices bytes ≡ Ok script

-- the script was read, and its first refused line is told
pub record RefusesScriptFile (name : List ℕ) (slices : ℕ) (old new : ShelfState) (s : Status) (text : List ℕ) : Type 0 where
  pub bytes : List ℕ
  pub file : HasFile name script_limit old new bytes
  pub told : RefusesScript name slices bytes s text

-- the reply where a script was not read
abbrev pub ScriptReply : List ℕ → ℕ → ShelfState → ShelfState → Status → List ℕ → Type 0
ScriptReply name slices old new s text = FileReply name script_limit old new s text ⊎ RefusesScriptFile name slices old new s text
