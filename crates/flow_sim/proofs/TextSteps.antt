-- The text of a run, clock by clock, and what a sink has got of it.
use Rattle.std.proofs.Common.{ℕ, suc, ◌≡◌, ◌+◌, ◌-◌, ◌<◌, List, [], ◌++◌, length, take, drop, refl, sym, ap, ◌∙◌, subst, append_assoc, IsTrue, arith}
use Rattle.std.proofs.Math.Seq.{take-append_seam}
use Rattle.std.proofs.lemmas.List.{take-append-drop, append-nil}
use Rattle.io_base.specs.Sink.{SinkState, SinkGoesOn, Adds, AddsPrefix}
use Rattle.flow_graph.specs.Graph.{Graph}
use Rattle.bus_script.specs.declared.buses.Buses.{Buses}
use Rattle.bus_script.specs.Script.{BusScript}
use Rattle.flow_sim.specs.Machine.{start_machine, after}
use Rattle.flow_sim.specs.Flow.{FlowState, buses_for, flow_step, flow_from, flow_start, flow_trace}
use Rattle.flow_sim.specs.TraceText.{trace_text, clock_line, text_from, flow_text}

-- ---- the text

-- the line of the first clock, then the text of the others
pub text_step : (g : Graph) (script : BusScript) (n : ℕ) (s : FlowState) →
    text_from g script (suc n) s ≡ clock_line g script s ++ text_from g script n (flow_step g s (buses_for script s))
unfolding trace_text clock_line flow_from
text_step g script n s = refl

-- no clocks have no text
pub text_none : (g : Graph) (script : BusScript) (s : FlowState) → text_from g script 0 s ≡ []
unfolding trace_text flow_from
text_none g script s = refl

-- the text of a run is that from its start on
text_of_run : (g : Graph) (script : BusScript) (n : ℕ) → flow_text g script n ≡ text_from g script n (flow_start g script)
unfolding flow_text flow_trace
text_of_run g script n = refl

-- the first clock has number 0
pub start_clock : (g : Graph) (script : BusScript) → (flow_start g script).machine.clock ≡ 0
unfolding flow_start start_machine
start_clock g script = refl

-- what is left of the text before a clock: its line, and what is left after it
text_left : (g : Graph) (script : BusScript) (clocks k : ℕ) (s next : FlowState) (line : List ℕ) → k < clocks
    → line ≡ clock_line g script s →
    next ≡ flow_step g s (buses_for script s) → text_from g script (clocks - k) s ≡ line ++ text_from g script (clocks - (k + 1)) next
text_left g script clocks k s next line before is_line is_next =
    let left : clocks - k ≡ suc (clocks - (k + 1)) = omega arith in
    rw (left, is_line, is_next) (text_step g script (clocks - (k + 1)) s)

-- ---- the sink

-- the sink has got all of the whole text but what is left
abbrev pub Written : SinkState → SinkState → List ℕ → List ℕ → Type 0
Written start now whole left = IsTrue start.tells → (done : List ℕ) × (whole ≡ done ++ left) × (now.bytes ≡ start.bytes ++ done)

-- a sink goes on from call to call
pub goes_further : (start now new : SinkState) → SinkGoesOn start now → SinkGoesOn now new → SinkGoesOn start new
goes_further start now new before then = record { later = omega (arith, before.later, then.later); tells = then.tells ∙ before.tells }

-- nothing is written yet, at the start
pub written_none : (start : SinkState) (g : Graph) (script : BusScript) (clocks : ℕ) (s : FlowState) → s ≡ flow_start g script →
    Written start start (flow_text g script clocks) (text_from g script (clocks - 0) s)
written_none start g script clocks s begun = λ t.
    let all : clocks - 0 ≡ clocks = omega arith in
    ([], rw (all, begun) (text_of_run g script clocks), sym (append-nil start.bytes))

-- nothing is left
pub written_all : (start now : SinkState) (whole left : List ℕ) → left ≡ [] → Written start now whole left → Adds start now whole
written_all start now whole left none told = λ t.
    let front = told t in
    let all : whole ≡ front.0 = front.1 ∙ ap (λ (rest : List ℕ). front.0 ++ rest) none ∙ append-nil front.0 in
    front.2 ∙ ap (λ (done : List ℕ). start.bytes ++ done) (sym all)

-- a piece more is written
pub written_more : (start now new : SinkState) (whole piece left : List ℕ) → SinkGoesOn start now
    → Written start now whole (piece ++ left) → Adds now new piece → Written start new whole left
written_more start now new whole piece left goes_on told adds = λ t.
    let front = told t in (
      front.0 ++ piece,
      front.1 ∙ sym (append_assoc front.0 piece left),
      adds (goes_on.tells ∙ t) ∙ ap (λ (bytes : List ℕ). bytes ++ piece) front.2 ∙ append_assoc start.bytes front.0 piece,
    )

-- a front of the next piece is a front of the whole
pub written_front : (start now new : SinkState) (whole piece left : List ℕ) → SinkGoesOn start now
    → Written start now whole (piece ++ left) → AddsPrefix now new piece → AddsPrefix start new whole
written_front start now new whole piece left goes_on told adds = λ t.
    let front = told t in
    let some = adds (goes_on.tells ∙ t) in
    let part : List ℕ = take some.0 piece in
    let rest : List ℕ = drop some.0 piece ++ left in
    let cut : piece ++ left ≡ part ++ rest = ap (λ (p : List ℕ). p ++ left) (sym (take-append-drop some.0 piece))
    ∙ append_assoc part (drop some.0 piece) left in
    let split : whole ≡ (front.0 ++ part) ++ rest = front.1 ∙ ap (λ (p : List ℕ). front.0 ++ p) cut
    ∙ sym (append_assoc front.0 part rest) in
    let taken : take (length (front.0 ++ part)) whole ≡ front.0 ++ part = ap (take (length (front.0 ++ part))) split
    ∙ take-append_seam (front.0 ++ part) rest in (
      length (front.0 ++ part),
      some.1 ∙ ap (λ (bytes : List ℕ). bytes ++ part) front.2 ∙ append_assoc start.bytes front.0 part
          ∙ ap (λ (p : List ℕ). start.bytes ++ p) (sym taken),
    )

-- ---- one clock of a run

-- the line of a clock is written
pub clock_written : (g : Graph) (script : BusScript) (clocks k : ℕ) (s next : FlowState) (line : List ℕ) (start now new : SinkState)
    (whole : List ℕ) →
    k < clocks → line ≡ clock_line g script s → next ≡ flow_step g s (buses_for script s) → SinkGoesOn start now →
    Written start now whole (text_from g script (clocks - k) s) → Adds now new line
    → Written start new whole (text_from g script (clocks - (k + 1)) next)
clock_written g script clocks k s next line start now new whole before is_line is_next goes_on told adds =
    let left = text_left g script clocks k s next line before is_line is_next in
    written_more start now new whole line (text_from g script (clocks - (k + 1)) next) goes_on (subst (Written start now whole) left told)
    adds

-- a front of the line of a clock is written
pub clock_front : (g : Graph) (script : BusScript) (clocks k : ℕ) (s next : FlowState) (line : List ℕ) (start now new : SinkState)
    (whole : List ℕ) →
    k < clocks → line ≡ clock_line g script s → next ≡ flow_step g s (buses_for script s) → SinkGoesOn start now →
    Written start now whole (text_from g script (clocks - k) s) → AddsPrefix now new line → AddsPrefix start new whole
clock_front g script clocks k s next line start now new whole before is_line is_next goes_on told adds =
    let left = text_left g script clocks k s next line before is_line is_next in
    written_front start now new whole line (text_from g script (clocks - (k + 1)) next) goes_on
    (subst (Written start now whole) left told) adds

-- the number of the next clock
pub step_clock : (g : Graph) (s : FlowState) (b : Buses) → (flow_step g s b).machine.clock ≡ s.machine.clock + 1
unfolding flow_step after
step_clock g s b = refl
