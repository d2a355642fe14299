-- How what stops or ends a command ends the call.
use Rattle.std.proofs.Common.{ℕ, List, inl, inr, Result, Ok, Err, refl, sym, subst}
use Rattle.io_base.specs.Sink.{SinkState}
use Rattle.replies.specs.Texts.{no_memory}
use Rattle.replies.specs.Ending.{Says, Ends, OrNoMemory, StopsBy, ComesTo, SaysStop, SaysEnd}
use Rattle.replies.specs.declared.status.Status.{Status}
use Rattle.replies.specs.declared.status.Status.TheVariants as status
use Rattle.replies.specs.declared.reply.Reply.{Reply}
use Rattle.replies.specs.declared.reply.Stop.{Stop}
use Rattle.replies.specs.declared.reply.Stop.TheVariants as stop

-- where each answer of one kind is of another kind, what stops by the one stops by the other
pub StopsBy-map : (P Q : Status → List ℕ → Type 0) → ((s : Status) (text : List ℕ) → P s text → Q s text) → (x : Stop) → StopsBy P x
    → StopsBy Q x
StopsBy-map P Q is (stop.Reply reply) by = is reply.status reply.text.items by
StopsBy-map P Q is stop.OutOfMemory by = by

-- a text of an answer that was said ends the call with that answer
pub says_ends : (answer : Status → List ℕ → Type 0) (s : Status) (text : List ℕ) (old new : SinkState) (result : Status)
    → answer s text → Says s text old new result → Ends answer old new result
says_ends answer s text old new result a (inl said) =
    let P : Status → Type 0 = λ r. answer r text in
    inl (text, subst P (sym said.0) a, said.1)
says_ends answer s text old new result a (inr failed) = inr (failed.0, failed.1, (s, text, a, failed.2))

-- what stopped a command, once it is said, ends the call with that reply or with want of memory
pub said_stop : (replies : Status → List ℕ → Type 0) (x : Stop) (old new : SinkState) (result : Status)
    → StopsBy replies x → SaysStop x old new result → Ends (OrNoMemory replies) old new result
said_stop replies (stop.Reply reply) old new result by said =
    says_ends (OrNoMemory replies) reply.status reply.text.items old new result (inl by) said
said_stop replies stop.OutOfMemory old new result by said =
    says_ends (OrNoMemory replies) status.NoMemory no_memory old new result (inr (refl, refl)) said

-- what a command came to, once it is said, ends the call with that reply or with want of memory
pub said_end : (replies : Status → List ℕ → Type 0) (end : Result Reply Stop) (old new : SinkState) (result : Status)
    → ComesTo replies end → SaysEnd end old new result → Ends (OrNoMemory replies) old new result
said_end replies (Ok reply) old new result comes said =
    says_ends (OrNoMemory replies) reply.status reply.text.items old new result (inl comes) said
said_end replies (Err x) old new result comes said = said_stop replies x old new result comes said

-- where each answer of one kind is of another kind, a call that ends with the one ends with the other
pub Ends-map : (P Q : Status → List ℕ → Type 0) → ((s : Status) (text : List ℕ) → P s text → Q s text)
    → (old new : SinkState) (result : Status)
    → Ends P old new result → Ends Q old new result
Ends-map P Q is old new result (inl said) = inl (said.0, is result said.0 said.1, said.2)
Ends-map P Q is old new result (inr failed) =
    let told = failed.2 in
    inr (failed.0, failed.1, (told.0, told.1, is told.0 told.1 told.2, told.3))
