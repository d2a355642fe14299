-- How a call ends at the sink (this project's own choice).
use Rattle.std.specs.Prelude.{ℕ, ◌≡◌, ◌⊎◌, List, Result, Ok, Err}
use Rattle.io_base.specs.Causes.{Rose}
use Rattle.io_base.specs.Sink.{SinkState, Adds, AddsPrefix}
use Rattle.replies.specs.declared.status.Status.{Status}
use Rattle.replies.specs.declared.status.Status.TheVariants as status
use Rattle.replies.specs.declared.reply.Reply.{Reply}
use Rattle.replies.specs.declared.reply.Stop.{Stop}
use Rattle.replies.specs.declared.reply.Stop.TheVariants as stop
use Rattle.replies.specs.Texts.{no_memory}

-- this text was written whole, with its status, or the sink failed after a prefix of it
abbrev pub Says : Status → List ℕ → SinkState → SinkState → Status → Type 0
Says s text old new result =
    ((result ≡ s) × Adds old new text)
    ⊎ ((result ≡ status.SinkFault) × Rose old.faults new.faults × AddsPrefix old new text)

-- the text of the answer was written whole and nothing else; or the sink failed in this call, after a prefix of the
-- text of an answer
abbrev pub Ends : (Status → List ℕ → Type 0) → SinkState → SinkState → Status → Type 0
Ends answer old new result =
    ((text : List ℕ) × answer result text × Adds old new text)
    ⊎ ((result ≡ status.SinkFault) × Rose old.faults new.faults
    × ((s : Status) × (text : List ℕ) × answer s text × AddsPrefix old new text))

-- a reply of this kind, or that memory was refused
abbrev pub OrNoMemory : (Status → List ℕ → Type 0) → Status → List ℕ → Type 0
OrNoMemory replies s text = replies s text ⊎ ((s ≡ status.NoMemory) × (text ≡ no_memory))

-- a step that stopped a command did so with a reply of this kind, or memory was refused, which says nothing
abbrev pub StopsBy : (Status → List ℕ → Type 0) → Stop → Type 0
StopsBy replies (stop.Reply reply) = replies reply.status reply.text.items
StopsBy replies stop.OutOfMemory = Unit {0}

-- a command comes to a reply of this kind, at its last step or before, unless it wants memory
abbrev pub ComesTo : (Status → List ℕ → Type 0) → Result Reply Stop → Type 0
ComesTo replies (Ok reply) = replies reply.status reply.text.items
ComesTo replies (Err stop) = StopsBy replies stop

-- what stopped a command was said
abbrev pub SaysStop : Stop → SinkState → SinkState → Status → Type 0
SaysStop (stop.Reply reply) old new result = Says reply.status reply.text.items old new result
SaysStop stop.OutOfMemory old new result = Says status.NoMemory no_memory old new result

-- what a command came to was said
abbrev pub SaysEnd : Result Reply Stop → SinkState → SinkState → Status → Type 0
SaysEnd (Ok reply) old new result = Says reply.status reply.text.items old new result
SaysEnd (Err stop) old new result = SaysStop stop old new result
