-- The text of a trace. This is this project's own format.
use Rattle.std.specs.Prelude.{ℕ, List, Option, Some, None, codes}
use Rattle.std.specs.List.{flat_map}
use Rattle.flow_graph.specs.declared.instructions.Instr.{Instr}
use Rattle.flow_graph.specs.Graph.{Graph}
use Rattle.flow_graph.specs.Order.{instr_at}
use Rattle.bus_script.specs.declared.clock_view.ClockView.{ClockView}
use Rattle.bus_script.specs.Script.{BusScript}
use Rattle.bus_script.specs.TraceLine.{trace_line}
use Rattle.flow_sim.specs.Flow.{FlowState, buses_for, flow_view, flow_from, flow_trace}

-- a line for each place and view, for an array of this many slices, where each place has a text
unfoldable pub trace_text : {P : Type 0} → (P → List ℕ) → ℕ → List (P × ClockView) → List ℕ
trace_text place_text slices trace = flat_map (λ entry. trace_line (place_text entry.0) entry.1 slices) trace

-- an instruction's name, or `-` in the trap
abbrev pub name_or_dash : Option Instr → List ℕ
name_or_dash None = codes "-"
name_or_dash (Some instr) = instr.name

-- the name of a label, or `-` for the trap
abbrev pub place_name : Graph → Option ℕ → List ℕ
place_name g place = name_or_dash (instr_at g place)

-- the line of the clock that a state is about to do
unfoldable pub clock_line : Graph → BusScript → FlowState → List ℕ
clock_line g script s = trace_line (place_name g s.place) (flow_view g s (buses_for script s)) g.decl.slices

-- the text of so many clocks of the flow from a state on
abbrev pub text_from : Graph → BusScript → ℕ → FlowState → List ℕ
text_from g script n s = trace_text (place_name g) g.decl.slices (flow_from g script n s)

-- the text of the flow's first so many clocks
unfoldable pub flow_text : Graph → BusScript → ℕ → List ℕ
flow_text g script n = trace_text (place_name g) g.decl.slices (flow_trace g script n)
