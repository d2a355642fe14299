-- The text of a run, clock by clock.
use Rattle.std.proofs.Common.{◌≡◌, ℕ, suc, ◌+◌, ◌-◌, ◌<◌, List, [], ◌++◌, refl, subst, arith}
use Rattle.io_base.specs.Sink.{SinkState, SinkGoesOn, Adds, AddsPrefix}
use Rattle.field_decl.specs.Declaration.{Declaration}
use Rattle.bus_script.specs.Script.{BusScript}
use Rattle.flow_sim.specs.TraceText.{trace_text}
use Rattle.flow_sim.proofs.TextSteps.{Written, written_more, written_front}
use Rattle.bus_bench.specs.Chip.{BenchState, bench_start, buses_for, chip_step, chip_from, chip_trace, clock_line, text_from, chip_text}

-- the line of the first clock, then the text of the others
text_step : (words : List ℕ) (decl : Declaration) (script : BusScript) (n : ℕ) (s : BenchState)
    → text_from words decl script (suc n) s ≡ clock_line words decl script s ++ text_from words decl script n
    (chip_step words decl s (buses_for script s))
unfolding trace_text clock_line chip_from
text_step words decl script n s = refl

-- no clocks have no text
pub text_none : (words : List ℕ) (decl : Declaration) (script : BusScript) (s : BenchState) → text_from words decl script 0 s ≡ []
unfolding trace_text chip_from
text_none words decl script s = refl

-- the text of a run is that from its start on
pub text_of_run : (words : List ℕ) (decl : Declaration) (script : BusScript) (n : ℕ)
    → chip_text words decl script n ≡ text_from words decl script n (bench_start script)
unfolding chip_text chip_trace
text_of_run words decl script n = refl

-- what is left of the text before a clock: its line, and what is left after it
text_left : (words : List ℕ) (decl : Declaration) (script : BusScript) (clocks k : ℕ) (s next : BenchState) (line : List ℕ) → k < clocks
    → line ≡ clock_line words decl script s
    → next ≡ chip_step words decl s (buses_for script s)
    → text_from words decl script (clocks - k) s ≡ line ++ text_from words decl script (clocks - (k + 1)) next
text_left words decl script clocks k s next line before is_line is_next =
    let left : clocks - k ≡ suc (clocks - (k + 1)) = omega arith in
    rw (left, is_line, is_next) (text_step words decl script (clocks - (k + 1)) s)

-- the line of a clock is written
pub clock_written : (words : List ℕ) (decl : Declaration) (script : BusScript) (clocks k : ℕ) (s next : BenchState) (line : List ℕ)
    (start now new : SinkState) (whole : List ℕ)
    → k < clocks → line ≡ clock_line words decl script s → next ≡ chip_step words decl s (buses_for script s) → SinkGoesOn start now
    → Written start now whole (text_from words decl script (clocks - k) s) → Adds now new line
    → Written start new whole (text_from words decl script (clocks - (k + 1)) next)
clock_written words decl script clocks k s next line start now new whole before is_line is_next goes_on told adds =
    let left = text_left words decl script clocks k s next line before is_line is_next in
    written_more start now new whole line (text_from words decl script (clocks - (k + 1)) next) goes_on
    (subst (Written start now whole) left told) adds

-- a front of the line of a clock is written
pub clock_front : (words : List ℕ) (decl : Declaration) (script : BusScript) (clocks k : ℕ) (s next : BenchState) (line : List ℕ)
    (start now new : SinkState) (whole : List ℕ)
    → k < clocks → line ≡ clock_line words decl script s → next ≡ chip_step words decl s (buses_for script s) → SinkGoesOn start now
    → Written start now whole (text_from words decl script (clocks - k) s) → AddsPrefix now new line → AddsPrefix start new whole
clock_front words decl script clocks k s next line start now new whole before is_line is_next goes_on told adds =
    let left = text_left words decl script clocks k s next line before is_line is_next in
    written_front start now new whole line (text_from words decl script (clocks - (k + 1)) next) goes_on
    (subst (Written start now whole) left told) adds
