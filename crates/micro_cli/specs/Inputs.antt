-- The first steps of a command that takes a source and a script (this project's own choice).
use Rattle.std.specs.Prelude.{ℕ, ◌⊎◌, List}
use Rattle.io_base.specs.Shelf.{ShelfState}
use Rattle.flow_graph.specs.Graph.{Graph}
use Rattle.bus_script.specs.Script.{BusScript}
use Rattle.replies.specs.SourceStep.{HasSource, SourceReply}
use Rattle.replies.specs.ScriptStep.{HasScript, ScriptReply}
use Rattle.replies.specs.declared.status.Status.{Status}

-- the source is this program, and the script says this for its array
pub record HasInputs (src script : List ℕ) (old new : ShelfState) (g : Graph) (said : BusScript) : Type 0 where
  pub mid : ShelfState
  pub source : HasSource src old mid g
  pub read : HasScript script g.decl.slices mid new said

-- the source is a program, and its script is not had
pub record LacksScript (src script : List ℕ) (old new : ShelfState) (s : Status) (text : List ℕ) : Type 0 where
  pub g : Graph
  pub mid : ShelfState
  pub source : HasSource src old mid g
  pub reply : ScriptReply script g.decl.slices mid new s text

-- the reply where a source or its script is not had, the source first
abbrev pub InputsReply : List ℕ → List ℕ → ShelfState → ShelfState → Status → List ℕ → Type 0
InputsReply src script old new s text = SourceReply src old new s text ⊎ LacksScript src script old new s text
