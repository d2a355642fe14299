-- A text that is written in two pieces.
use Rattle.std.proofs.Common.{ℕ, ◌+◌, inl, inr, List, [], ◌++◌, length, take, refl, sym, ap, ◌∙◌, append_assoc, append-nil, arith}
use Rattle.std.proofs.Math.Seq.{take-append-add}
use Rattle.io_base.specs.Causes.{Rose}
use Rattle.io_base.specs.Sink.{SinkState, SinkGoesOn, Adds, AddsPrefix}
use Rattle.flow_sim.proofs.TextSteps.{written_front}
use Rattle.replies.specs.Ending.{Ends}
use Rattle.replies.specs.declared.status.Status.{Status}

-- both pieces
adds_both : (old mid new : SinkState) (first second : List ℕ) → SinkGoesOn old mid → Adds old mid first → Adds mid new second
    → Adds old new (first ++ second)
adds_both old mid new first second flows one two = λ t.
    two (flows.tells ∙ t) ∙ ap (λ (bytes : List ℕ). bytes ++ second) (one t) ∙ append_assoc old.bytes first second

-- the first piece, and a front of the second
adds_front : (old mid new : SinkState) (first second : List ℕ) → SinkGoesOn old mid → Adds old mid first → AddsPrefix mid new second
    → AddsPrefix old new (first ++ second)
adds_front old mid new first second flows one two = λ t.
    let some = two (flows.tells ∙ t) in (
      length first + some.0,
      some.1 ∙ ap (λ (bytes : List ℕ). bytes ++ take some.0 second) (one t) ∙ append_assoc old.bytes first (take some.0 second)
          ∙ ap (λ (p : List ℕ). old.bytes ++ p) (sym (take-append-add first second some.0)),
    )

-- a front of the first piece is a front of both
pub front_of_both : (old new : SinkState) (first second : List ℕ) → AddsPrefix old new first → AddsPrefix old new (first ++ second)
front_of_both old new first second part =
    written_front old old new (first ++ second) first second (record { later = omega arith; tells = refl })
    (λ t. ([], refl, sym (append-nil old.bytes))) part

-- a count that rose later rose from the start
rose_later : (old mid new : SinkState) → SinkGoesOn old mid → Rose mid.faults new.faults → Rose old.faults new.faults
rose_later old mid new flows rose = omega (arith, flows.later, rose)

-- what ends a call after a first piece ends it with an answer of both
pub ends_after : (P Q : Status → List ℕ → Type 0) (first : List ℕ) → ((s : Status) (text : List ℕ) → P s text → Q s (first ++ text))
    → (old mid new : SinkState) (result : Status)
    → SinkGoesOn old mid → Adds old mid first → Ends P mid new result → Ends Q old new result
ends_after P Q first is old mid new result flows one (inl whole) =
    inl (first ++ whole.0, is result whole.0 whole.1, adds_both old mid new first whole.0 flows one whole.2)
ends_after P Q first is old mid new result flows one (inr failed) =
    let part = failed.2 in
    inr (
      failed.0,
      rose_later old mid new flows failed.1,
      (part.0, first ++ part.1, is part.0 part.1 part.2, adds_front old mid new first part.1 flows one part.3),
    )
