-- How the trace of a flow ends a call.
use Rattle.std.proofs.Common.{ℕ, List, inl, inr}
use Rattle.io_base.specs.Shelf.{ShelfState}
use Rattle.flow_graph.specs.Graph.{Graph}
use Rattle.bus_script.specs.Script.{BusScript}
use Rattle.replies.specs.Ending.{OrNoMemory}
use Rattle.replies.specs.declared.status.Status.{Status}
use Rattle.micro_cli.specs.Inputs.{HasInputs}
use Rattle.micro_cli.specs.Flowing.{FlowReply, IsFlow}

-- a trace, or want of memory, is a reply of the command where its files were had
pub FlowReply-from : (src script : List ℕ) (clocks : ℕ) (old new : ShelfState) (g : Graph) (said : BusScript)
    → HasInputs src script old new g said → (s : Status) (text : List ℕ)
    → OrNoMemory (IsFlow g said clocks) s text → OrNoMemory (FlowReply src script clocks old new) s text
FlowReply-from src script clocks old new g said had s text (inl flow) = inl (inr (g, said, had, flow))
FlowReply-from src script clocks old new g said had s text (inr wants) = inr wants
