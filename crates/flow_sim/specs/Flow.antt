-- The symbolic flow: labels in place of cells. No cell occurs. The flow statements are this project's own choice.
use Rattle.std.specs.Prelude.{ℕ, zero, suc, ◌<◌, ◌/◌, ◌%◌, Bool, true, false, List, [], ◌∷◌, length, Option, Some, None, IfSome, slice_get}
use Rattle.mcu_jumps.specs.declared.kinds.Kind.{Kind}
use Rattle.mcu_jumps.specs.declared.kinds.Kind.TheVariants.{Goto, Strobe, Enable, IfF, IfC, IfZ, OnPr, OnPx, OnLeft, OnRight}
use Rattle.mcu_jumps.specs.NextAddress.{bit}
use Rattle.mcu_jumps.specs.Readings.{Readings}
use Rattle.flow_graph.specs.declared.instructions.Instr.{Instr}
use Rattle.flow_graph.specs.Graph.{Graph}
use Rattle.flow_graph.specs.Order.{Order, instr_at, order_of, values_of}
use Rattle.bus_script.specs.declared.buses.Buses.{Buses}
use Rattle.bus_script.specs.declared.clock_view.ClockView.{ClockView}
use Rattle.bus_script.specs.Script.{BusScript, buses_at}
use Rattle.flow_sim.specs.Machine.{Machine, IsMachineFor, start_machine, fi_of, readings_of, after, view_of}

-- ---- the state

-- the place is a label, or none in the trap
pub record FlowState : Type 0 where
  pub place : Option ℕ
  pub machine : Machine

-- a state of a program: a label is in range, and the machine fits the array
pub record IsStateOf (g : Graph) (s : FlowState) : Type 0 where
  pub place : IfSome s.place (λ label. label < length g.instrs)
  pub machine : IsMachineFor g.decl.slices s.machine

-- the flow begins at the start label
unfoldable pub flow_start : Graph → BusScript → FlowState
flow_start g script = record { place = Some g.start; machine = start_machine script }

-- ---- what a statement does

-- which outcome a statement takes
abbrev pub outcome_of : Kind → Readings → ℕ
outcome_of Goto t = 0
outcome_of Strobe t = 0
outcome_of Enable t = 0
outcome_of IfF t = bit t.f
outcome_of IfC t = bit t.c
outcome_of IfZ t = bit t.z
outcome_of OnPr t = t.pr
outcome_of OnPx t = t.px
outcome_of OnLeft t = t.pr / 4
outcome_of OnRight t = t.pr % 4

-- the PR latch after a statement: `onpx` loads it from SX
abbrev pub latch_by : Kind → ℕ → ℕ → ℕ
latch_by OnPx pr sx = sx
latch_by _ pr sx = pr

-- `strobe`, and no other statement, gives the interrupt strobe
abbrev pub is_strobe : Kind → Bool
is_strobe Strobe = true
is_strobe _ = false

-- `enable`, and no other statement, shows PR2 to PR0 of the latch as the clock begins
abbrev pub shown_by : Kind → ℕ → Option ℕ
shown_by Enable pr = Some (pr % 8)
shown_by _ pr = None

-- ---- what an instruction does, where none is the trap

-- a target that is there; where there is none, the trap
abbrev pub or_trap : Option (Option ℕ) → Option ℕ
or_trap None = None
or_trap (Some target) = target

-- the next place; the trap leads to the trap
abbrev pub place_after : Option Instr → Readings → Option ℕ
place_after None t = None
place_after (Some instr) t = or_trap (slice_get instr.targets (outcome_of instr.kind t))

-- the PR latch afterwards
abbrev pub latch_after : Option Instr → ℕ → ℕ → ℕ
latch_after None pr sx = pr
latch_after (Some instr) pr sx = latch_by instr.kind pr sx

-- the interrupt strobe
abbrev pub strobes : Option Instr → Bool
strobes None = false
strobes (Some instr) = is_strobe instr.kind

-- the PR outputs, where they are enabled
abbrev pub shows : Option Instr → ℕ → Option ℕ
shows None pr = None
shows (Some instr) pr = shown_by instr.kind pr

-- ---- one clock of the flow

-- the instruction of a state
abbrev pub instr_of : Graph → FlowState → Option Instr
instr_of g s = instr_at g s.place

-- what the instruction of a state orders
abbrev pub order_in : Graph → FlowState → Order
order_in g s = order_of g.decl (instr_of g s)

-- the state after a clock
unfoldable pub flow_step : Graph → FlowState → Buses → FlowState
flow_step g s b = record {
  place = place_after (instr_of g s) (readings_of s.machine (fi_of g.decl.slices (order_in g s) b s.machine) b.px);
  machine = after g.decl.slices (order_in g s) b (latch_after (instr_of g s) s.machine.pr b.sx) s.machine;
}

-- what is seen of a clock
unfoldable pub flow_view : Graph → FlowState → Buses → ClockView
flow_view g s b = view_of g.decl.slices (order_in g s) b (strobes (instr_of g s)) (shows (instr_of g s) s.machine.pr)
    (values_of g.decl (instr_of g s)) s.machine

-- ---- many clocks

-- the buses of the clock that a state is about to do
abbrev pub buses_for : BusScript → FlowState → Buses
buses_for script s = buses_at script s.machine.clock

-- the places and views of so many clocks from a state on
unfoldable pub flow_from : Graph → BusScript → ℕ → FlowState → List (Option ℕ × ClockView)
flow_from g script zero s = []
flow_from g script (suc n) s = (s.place, flow_view g s (buses_for script s)) ∷ flow_from g script n (flow_step g s (buses_for script s))

-- the places and views of the first so many clocks
unfoldable pub flow_trace : Graph → BusScript → ℕ → List (Option ℕ × ClockView)
flow_trace g script n = flow_from g script n (flow_start g script)
