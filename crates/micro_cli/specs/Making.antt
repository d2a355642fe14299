-- What `make` answers: inputs, the search, and what becomes of its answer, in this order (this project's own choice).
use Rattle.std.specs.Prelude.{ℕ, ◌≡◌, ◌⊎◌, List, Ok}
use Rattle.io_base.specs.Shelf.{ShelfState}
use Rattle.flow_graph.specs.Graph.{Graph}
use Rattle.bus_script.specs.Script.{BusScript, script_of}
use Rattle.micro_cli.specs.Searching.{SearchAnswer}
use Rattle.replies.specs.FileStep.{HasFile}
use Rattle.replies.specs.SourceStep.{HasSource}
use Rattle.replies.specs.ScriptStep.{script_limit}
use Rattle.replies.specs.Ending.{OrNoMemory}
use Rattle.replies.specs.declared.status.Status.{Status}
use Rattle.micro_cli.specs.Inputs.{InputsReply}
use Rattle.micro_cli.specs.Keeping.{LeavesAll}

-- these bytes were read under the script's name, and are a script for so many slices
pub record ReadsScript (name : List ℕ) (slices : ℕ) (old new : ShelfState) (bytes : List ℕ) : Type 0 where
  pub file : HasFile name script_limit old new bytes
  pub said : BusScript
  pub meant : script_of slices bytes ≡ Ok said

-- source and script were had up to this state, and these are the script's bytes
pub record StartsFrom (src script : List ℕ) (old new : ShelfState) (g : Graph) (bytes : List ℕ) : Type 0 where
  pub mid : ShelfState
  pub source : HasSource src old mid g
  pub read : ReadsScript script g.decl.slices mid new bytes

-- source and script were had, and this became of the search
pub record FromInputs (src script out : List ℕ) (clocks conflicts : ℕ) (old new : ShelfState) (s : Status) (text : List ℕ) : Type 0 where
  pub g : Graph
  pub bytes : List ℕ
  pub mid : ShelfState
  pub starts : StartsFrom src script old mid g bytes
  pub answer : SearchAnswer (record { out = out; script = script; bytes = bytes; clocks = clocks }) conflicts g mid new s text

-- source or script were not had, or memory for them was refused; no file changed, and none was begun or grown
pub record WithoutInputs (src script : List ℕ) (old new : ShelfState) (s : Status) (text : List ℕ) : Type 0 where
  pub told : OrNoMemory (InputsReply src script old new) s text
  pub left : LeavesAll old new

-- what `make SRC SCRIPT OUT clocks=N conflicts=B` answers
abbrev pub MakeAnswer : List ℕ → List ℕ → List ℕ → ℕ → ℕ → ShelfState → ShelfState → Status → List ℕ → Type 0
MakeAnswer src script out clocks conflicts old new s text =
    WithoutInputs src script old new s text ⊎ FromInputs src script out clocks conflicts old new s text
