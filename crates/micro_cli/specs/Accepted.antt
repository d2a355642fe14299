-- Sources and scripts that `make` accepts, by the files themselves (this project's own choice).
use Rattle.std.specs.Prelude.{ℕ, ◌≡◌, ◌≤◌, List, length, Option, Some, Ok}
use Rattle.flow_graph.specs.Graph.{Graph}
use Rattle.micro_asm.specs.Source.{source_of}
use Rattle.bus_script.specs.Script.{BusScript, script_of}
use Rattle.replies.specs.SourceStep.{source_limit}
use Rattle.replies.specs.ScriptStep.{script_limit}

-- the file of this name holds these bytes, which are not too many
pub record Holds (files : List ℕ → Option (List ℕ)) (name : List ℕ) (limit : ℕ) (bytes : List ℕ) : Type 0 where
  pub there : files name ≡ Some bytes
  pub fits : length bytes ≤ limit

-- the source is this program, these are the script's bytes, and for the program's array they say this
pub record IsAccepted (src script : List ℕ) (files : List ℕ → Option (List ℕ)) (g : Graph) (bytes : List ℕ) (said : BusScript)
    : Type 0 where
  pub source : List ℕ
  pub source_held : Holds files src source_limit source
  pub meant : source_of source ≡ Ok g
  pub script_held : Holds files script script_limit bytes
  pub says : script_of g.decl.slices bytes ≡ Ok said
