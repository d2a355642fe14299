-- The whole run.
use Rattle.std.proofs.Common.{ℕ, zero, suc, ◌<◌, List, [], ◌∷◌, Option, Some, arith}
use Rattle.std.specs.Prelude.{slice_get, unwrap_or, All}
use Rattle.std.proofs.lemmas.List.Elements.{All-head, All-tail}
use Rattle.mcu_jumps.specs.Position.{Position}
use Rattle.flow_graph.specs.Graph.{Graph}
use Rattle.bus_script.specs.declared.buses.Buses.{Buses}
use Rattle.bus_script.specs.Script.{BusScript, buses_at, idle}
use Rattle.bus_script.specs.ScriptFits.{AreBusesFor, IsScriptFor}
use Rattle.place_model.specs.Legal.{IsLegal, origin}
use Rattle.prom_split.specs.Microword.{HoldsProgram}
use Rattle.flow_sim.specs.Machine.{Machine, start_machine}
use Rattle.flow_sim.specs.Flow.{flow_from, flow_start, flow_trace}
use Rattle.bus_bench.specs.Chip.{chip_from, bench_start, chip_trace}
use Rattle.bus_bench.specs.Law.{IsGraph}
use Rattle.bus_bench.specs.Matches.{Matches}
use Rattle.bus_bench.proofs.Steps.{Stands, Goes, goes}

-- PX and SX have four bits
record Narrow (b : Buses) : Type 0 where
  px : b.px < 16
  sx : b.sx < 16

-- so have those of each clock
narrow : (slices : ℕ) (clocks : List Buses) (clock : ℕ) → All (AreBusesFor slices) clocks
    → Narrow (unwrap_or (slice_get clocks clock) idle)
narrow slices [] clock h = record { px = omega arith; sx = omega arith }
narrow slices (b ∷ bs) zero h = let first = All-head (AreBusesFor slices) b bs h in record { px = first.px; sx = first.sx }
narrow slices (b ∷ bs) (suc clock) h = narrow slices bs clock (All-tail (AreBusesFor slices) b bs h)

from_matches : (n : ℕ) (g : Graph) (place : List Position) (words : List ℕ) (script : BusScript) (cell : Position) (at : Option ℕ)
    (m : Machine)
    → IsGraph g → IsLegal g place → HoldsProgram g place words → IsScriptFor g.decl.slices script → Stands place cell at m
    → Matches place (chip_from words g.decl script n (record { cell = cell; machine = m }))
    (flow_from g script n (record { place = at; machine = m }))
unfolding chip_from flow_from
from_matches zero g place words script cell at m graph legal holds fits stands = tt
from_matches (suc n) g place words script cell at m graph legal holds fits stands =
    let b : Buses = buses_at script m.clock in
    let buses : Narrow b = narrow g.decl.slices script.clocks m.clock fits.clocks in
    let step : Goes g place words cell at m b = goes g place words cell at m b graph legal holds buses.px buses.sx stands in (
      step.view,
      stands.there,
      rw (step.chip, step.flow)
          (from_matches n g place words script step.next_cell step.next_at step.next graph legal holds fits step.stands),
    )

start_pr : (script : BusScript) → (start_machine script).pr < 16
unfolding start_machine
start_pr script = omega arith

-- chip and flow match from the start on
pub law : (g : Graph) (place : List Position) (words : List ℕ) (script : BusScript) (n : ℕ) → IsGraph g → IsLegal g place
    → HoldsProgram g place words → IsScriptFor g.decl.slices script
    → Matches place (chip_trace words g.decl script n) (flow_trace g script n)
unfolding chip_trace flow_trace bench_start flow_start
law g place words script n graph legal holds fits =
    from_matches n g place words script origin (Some g.start) (start_machine script) graph legal holds fits (record {
      in_matrix = record { row = omega arith; col = omega arith };
      there = legal.start_at_origin;
      pr = start_pr script;
    })
