-- The bench: the 3001 that reads its microwords from the cells, its array, and a memory. What a word orders and where
-- it leads is by the data sheets of the 3001 and the 3002; the order of events in a clock is this project's own
-- choice.
use Rattle.std.specs.Prelude.{ℕ, zero, suc, List, [], ◌∷◌}
use Rattle.mcu_jumps.specs.Position.{Position}
use Rattle.mcu_jumps.specs.NextAddress.{next_of}
use Rattle.mcu_chip.specs.FlagStep.{next_pr, is_strobe, pr_shown}
use Rattle.field_decl.specs.Declaration.{Declaration}
use Rattle.field_decl.specs.KBits.{spread_bits}
use Rattle.flow_graph.specs.Order.{Order, writes}
use Rattle.bus_script.specs.declared.buses.Buses.{Buses}
use Rattle.bus_script.specs.declared.clock_view.ClockView.{ClockView}
use Rattle.bus_script.specs.Script.{BusScript, buses_at}
use Rattle.bus_script.specs.TraceLine.{trace_line}
use Rattle.place_model.specs.Legal.{origin}
use Rattle.place_model.specs.MapText.{cell_text}
use Rattle.prom_split.specs.declared.word_parts.WordParts.{WordParts}
use Rattle.prom_split.specs.Parts.{parts_of}
use Rattle.prom_split.specs.Microword.{share_in, word_at}
use Rattle.flow_sim.specs.Machine.{Machine, start_machine, fi_of, readings_of, after, view_of}
use Rattle.flow_sim.specs.TraceText.{trace_text}

-- ---- what the word at a cell says

-- the parts of the word at a cell
abbrev pub parts_at : List ℕ → Declaration → Position → WordParts
parts_at words decl cell = parts_of decl (word_at words cell)

-- what the parts of a word order: the K bits are spread on the K bus, and the declared write field writes where it is 1
unfoldable pub order_by : Declaration → WordParts → Order
order_by decl parts = record {
  func = parts.func;
  mask = spread_bits (share_in decl) decl.kbus parts.kbits;
  ctl = parts.ctl;
  write = writes decl.write parts.values;
}

-- ---- one clock

-- the present cell, and the machine
pub record BenchState : Type 0 where
  pub cell : Position
  pub machine : Machine

-- a run begins at row 0, column 0
unfoldable pub bench_start : BusScript → BenchState
bench_start script = record { cell = origin; machine = start_machine script }

-- the state after a clock on these parts: the jump tests this clock's FI, and C, Z and the PR latch as the clock begins
unfoldable pub step_by : Declaration → WordParts → BenchState → Buses → BenchState
step_by decl parts s b = record {
  cell = next_of s.cell parts.jump (readings_of s.machine (fi_of decl.slices (order_by decl parts) b s.machine) b.px);
  machine = after decl.slices (order_by decl parts) b (next_pr parts.jump.code s.machine.pr b.sx) s.machine;
}

-- what is seen of a clock on these parts
unfoldable pub view_by : Declaration → WordParts → BenchState → Buses → ClockView
view_by decl parts s b =
    view_of decl.slices (order_by decl parts) b (is_strobe parts.jump.code parts.jump.operand) (pr_shown parts.jump.code s.machine.pr)
    parts.values s.machine

-- the state after a clock on the word of the present cell
unfoldable pub chip_step : List ℕ → Declaration → BenchState → Buses → BenchState
chip_step words decl s b = step_by decl (parts_at words decl s.cell) s b

-- what is seen of a clock on the word of the present cell
unfoldable pub chip_view : List ℕ → Declaration → BenchState → Buses → ClockView
chip_view words decl s b = view_by decl (parts_at words decl s.cell) s b

-- ---- many clocks

-- the buses of the clock that a state is about to do
abbrev pub buses_for : BusScript → BenchState → Buses
buses_for script s = buses_at script s.machine.clock

-- the cells and views of so many clocks from a state on
unfoldable pub chip_from : List ℕ → Declaration → BusScript → ℕ → BenchState → List (Position × ClockView)
chip_from words decl script zero s = []
chip_from words decl script (suc n) s =
    (s.cell, chip_view words decl s (buses_for script s)) ∷ chip_from words decl script n (chip_step words decl s (buses_for script s))

-- the cells and views of the first so many clocks
unfoldable pub chip_trace : List ℕ → Declaration → BusScript → ℕ → List (Position × ClockView)
chip_trace words decl script n = chip_from words decl script n (bench_start script)

-- ---- the text

-- the line of the clock that a state is about to do
unfoldable pub clock_line : List ℕ → Declaration → BusScript → BenchState → List ℕ
clock_line words decl script s = trace_line (cell_text s.cell) (chip_view words decl s (buses_for script s)) decl.slices

-- the text of so many clocks from a state on
abbrev pub text_from : List ℕ → Declaration → BusScript → ℕ → BenchState → List ℕ
text_from words decl script n s = trace_text cell_text decl.slices (chip_from words decl script n s)

-- the text of the first so many clocks
unfoldable pub chip_text : List ℕ → Declaration → BusScript → ℕ → List ℕ
chip_text words decl script n = trace_text cell_text decl.slices (chip_trace words decl script n)
