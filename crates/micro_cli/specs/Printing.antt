-- What is printed, for a reader who does not unfold `Ends` and `Answer`. Each promise speaks of a sink that tells its
-- bytes, and where it speaks of replies over files, of a shelf that tells them.
use Rattle.std.specs.Prelude.{ℕ, ◌≡◌, ◌⊎◌, IsTrue, List, Option, None, Some, take}
use Rattle.io_base.specs.Shelf.{ShelfState}
use Rattle.io_base.specs.Sink.{SinkState}
use Rattle.flow_graph.specs.Graph.{Graph}
use Rattle.bus_script.specs.Script.{BusScript}
use Rattle.replies.specs.Ending.{OrNoMemory}
use Rattle.replies.specs.declared.status.Status.{Status}
use Rattle.replies.specs.declared.status.Status.TheVariants as status
use Rattle.micro_cli.specs.Command.{Command, make}
use Rattle.micro_cli.specs.Answer.{Answer}
use Rattle.micro_cli.specs.Accepted.{IsAccepted}
use Rattle.micro_cli.specs.Replying.{LacksInputsOver, Replies}
use Rattle.micro_cli.specs.Headline.{Writes, NoFaultCounted}

-- this reply was written with its status, or that memory was refused
abbrev pub PrintsReply : (Status → List ℕ → Type 0) → SinkState → SinkState → Status → Type 0
PrintsReply replies before after s = (text : List ℕ) × OrNoMemory replies s text × Writes before after text

-- what `map`, `flow`, `run` and `check` print where no call failed is their reply over the files
abbrev pub PrintsReplies : Option Command → ShelfState → ShelfState → SinkState → SinkState → Status → Type 0
PrintsReplies None old new before after s = Unit {0}
PrintsReplies (Some (make src script out clocks conflicts)) old new before after s = Unit {0}
PrintsReplies (Some command) old new before after s =
    IsTrue old.tells → IsTrue before.tells → NoFaultCounted old new before after → PrintsReply (Replies command old.file) before after s

-- Where `make` is asked for and no call failed, source and script are accepted, or what is printed refuses the first
-- that is not, as `flow` refuses it.
abbrev pub RefusesInputs : Option Command → ShelfState → ShelfState → SinkState → SinkState → Status → Type 0
RefusesInputs (Some (make src script out clocks conflicts)) old new before after s =
    IsTrue old.tells → IsTrue before.tells → NoFaultCounted old new before after →
    ((g : Graph) × (bytes : List ℕ) × (said : BusScript) × IsAccepted src script old.file g bytes said)
    ⊎ PrintsReply (LacksInputsOver old.file src script) before after s
RefusesInputs _ old new before after s = Unit {0}

-- the front of the text of an answer was written, and all of it but where the sink failed
pub record PrintsFront (command : Option Command) (old new : ShelfState) (before after : SinkState) (s : Status) : Type 0 where
  pub meant : Status
  pub text : List ℕ
  pub answer : Answer command old new meant text
  pub count : ℕ
  pub written : Writes before after (take count text)
  pub whole : ((s ≡ meant) × (take count text ≡ text)) ⊎ (s ≡ status.SinkFault)

-- nothing else was written
abbrev pub PrintsNothingElse : Option Command → ShelfState → ShelfState → SinkState → SinkState → Status → Type 0
PrintsNothingElse command old new before after s = IsTrue before.tells → PrintsFront command old new before after s
