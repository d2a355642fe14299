-- What `flow` replies (this project's own choice).
use Rattle.std.specs.Prelude.{ℕ, ◌≡◌, ◌⊎◌, List}
use Rattle.io_base.specs.Shelf.{ShelfState}
use Rattle.flow_graph.specs.Graph.{Graph}
use Rattle.bus_script.specs.Script.{BusScript}
use Rattle.flow_sim.specs.TraceText.{flow_text}
use Rattle.replies.specs.declared.status.Status.{Status}
use Rattle.replies.specs.declared.status.Status.TheVariants as status
use Rattle.micro_cli.specs.Inputs.{HasInputs, InputsReply}

-- the trace of the symbolic flow of a program under a script
pub record IsFlow (g : Graph) (said : BusScript) (clocks : ℕ) (s : Status) (text : List ℕ) : Type 0 where
  pub status_is : s ≡ status.Done
  pub text_is : text ≡ flow_text g said clocks

-- the reply of `flow SRC SCRIPT clocks=N`: that source or script is not had, or the trace
abbrev pub FlowReply : List ℕ → List ℕ → ℕ → ShelfState → ShelfState → Status → List ℕ → Type 0
FlowReply src script clocks old new s text =
    InputsReply src script old new s text
    ⊎ ((g : Graph) × (said : BusScript) × HasInputs src script old new g said × IsFlow g said clocks s text)
