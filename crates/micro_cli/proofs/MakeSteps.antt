-- How what becomes of the inputs is what `make` answers.
use Rattle.std.proofs.Common.{ℕ, List, inl, inr}
use Rattle.io_base.specs.Shelf.{ShelfState}
use Rattle.flow_graph.specs.Graph.{Graph}
use Rattle.replies.specs.Ending.{OrNoMemory}
use Rattle.replies.specs.declared.status.Status.{Status}
use Rattle.micro_cli.specs.Inputs.{InputsReply}
use Rattle.micro_cli.specs.Keeping.{LeavesAll}
use Rattle.micro_cli.specs.Searching.{SearchAnswer}
use Rattle.micro_cli.specs.Making.{StartsFrom, MakeAnswer}

-- what the search answers of inputs that were had
pub make_from : (src script out : List ℕ) (clocks conflicts : ℕ) (old mid new : ShelfState) (g : Graph) (bytes : List ℕ)
    → StartsFrom src script old mid g bytes
    → (s : Status) (text : List ℕ) → SearchAnswer (record { out = out; script = script; bytes = bytes; clocks = clocks }) conflicts g mid new s text
    → MakeAnswer src script out clocks conflicts old new s text
make_from src script out clocks conflicts old mid new g bytes starts s text answer =
    inr (record { g = g; bytes = bytes; mid = mid; starts = starts; answer = answer })

-- what is replied where inputs were not had
pub make_without : (src script out : List ℕ) (clocks conflicts : ℕ) (old new : ShelfState) → LeavesAll old new
    → (s : Status) (text : List ℕ) → OrNoMemory (InputsReply src script old new) s text
    → MakeAnswer src script out clocks conflicts old new s text
make_without src script out clocks conflicts old new left s text told = inl (record { told = told; left = left })
