-- One clock of the chip and of the flow.
use Rattle.std.proofs.Common.{◌≡◌, ℕ, ◌<◌, List, length, Option, Some, None, refl, sym, ap, subst, ◌∙◌}
use Rattle.std.specs.Prelude.{slice_get}
use Rattle.std.proofs.lemmas.Option.{slice_get_within}
use Rattle.mcu_jumps.specs.Position.{Position, IsCell}
use Rattle.mcu_jumps.specs.JumpWord.{JumpWord}
use Rattle.mcu_jumps.specs.Landing.{outcomes_of}
use Rattle.mcu_jumps.specs.NextAddress.{next_of}
use Rattle.mcu_jumps.specs.Readings.{Readings}
use Rattle.mcu_chip.specs.FlagStep.{next_pr, is_strobe, pr_shown}
use Rattle.flow_graph.specs.declared.instructions.Instr.{Instr}
use Rattle.flow_graph.specs.Graph.{Graph}
use Rattle.flow_graph.specs.Order.{Order, instr_at, order_of, values_of}
use Rattle.bus_script.specs.declared.buses.Buses.{Buses}
use Rattle.place_model.specs.Cells.{IsAt}
use Rattle.place_model.specs.Legal.{IsLegal, MeetsLegality}
use Rattle.prom_split.specs.Parts.{parts_of}
use Rattle.prom_split.specs.Microword.{parts_with, HoldsProgram, free_jump}
use Rattle.prom_split.proofs.ListSteps.{element_at}
use Rattle.flow_sim.specs.Machine.{Machine, fi_of, readings_of, after}
use Rattle.flow_sim.specs.Flow.{outcome_of, place_after, latch_after, strobes, shows, flow_step, flow_view}
use Rattle.bus_bench.specs.Chip.{parts_at, step_by, view_by, chip_step, chip_view}
use Rattle.bus_bench.specs.Law.{IsGraph}
use Rattle.bus_bench.proofs.Jumps.{Agrees, agrees, outcome_below, latch_below, lands_in}
use Rattle.bus_bench.proofs.Orders.{IsHeld, read_back, order_back, instr_held, free_held}

-- chip and flow between two clocks: the chip is at a cell where the flow is
pub record Stands (place : List Position) (cell : Position) (at : Option ℕ) (m : Machine) : Type 0 where
  pub in_matrix : IsCell cell
  pub there : IsAt place at cell
  pub pr : m.pr < 16

-- what the jumps test in this clock
abbrev pub readings_in : Graph → Option Instr → Machine → Buses → Readings
readings_in g here m b = readings_of m (fi_of g.decl.slices (order_of g.decl here) b m) b.px

-- what is read at a cell, and what the flow executes there, say the same: order and values, the next place, latch,
-- strobe and latch outputs
pub record Says (g : Graph) (place : List Position) (words : List ℕ) (cell : Position) (here : Option Instr) (m : Machine) (b : Buses)
    : Type 0 where
  pub jump : JumpWord
  pub reads : parts_at words g.decl cell ≡ parts_with g.decl (order_of g.decl here) (values_of g.decl here) jump
  pub held : IsHeld g.decl (order_of g.decl here) (values_of g.decl here)
  pub in_matrix : IsCell (next_of cell jump (readings_in g here m b))
  pub there : IsAt place (place_after here (readings_in g here m b)) (next_of cell jump (readings_in g here m b))
  pub latch : next_pr jump.code m.pr b.sx ≡ latch_after here m.pr b.sx
  pub strobe : is_strobe jump.code jump.operand ≡ strobes here
  pub shown : pr_shown jump.code m.pr ≡ shows here m.pr
  pub below : latch_after here m.pr b.sx < 16

-- a clock leads chip and flow from here to there, with one view and one machine
pub record Goes (g : Graph) (place : List Position) (words : List ℕ) (cell : Position) (at : Option ℕ) (m : Machine) (b : Buses)
    : Type 0 where
  pub next_cell : Position
  pub next_at : Option ℕ
  pub next : Machine
  pub view : chip_view words g.decl (record { cell = cell; machine = m }) b ≡ flow_view g (record { place = at; machine = m }) b
  pub chip : chip_step words g.decl (record { cell = cell; machine = m }) b ≡ record { cell = next_cell; machine = next }
  pub flow : flow_step g (record { place = at; machine = m }) b ≡ record { place = next_at; machine = next }
  pub stands : Stands place next_cell next_at next

after_pr : (slices : ℕ) (order : Order) (b : Buses) (pr : ℕ) (m : Machine) → pr < 16 → (after slices order b pr m).pr < 16
unfolding after
after_pr slices order b pr m h = h

goes_by : (g : Graph) (place : List Position) (words : List ℕ) (cell : Position) (at : Option ℕ) (m : Machine) (b : Buses)
    → Says g place words cell (instr_at g at) m b → Goes g place words cell at m b
unfolding flow_step flow_view chip_step chip_view step_by view_by
goes_by g place words cell at m b s =
    let here : Option Instr = instr_at g at in
    let o : Order = order_of g.decl here in
    record {
      next_cell = next_of cell s.jump (readings_in g here m b);
      next_at = place_after here (readings_in g here m b);
      next = after g.decl.slices o b (latch_after here m.pr b.sx) m;
      view = rw (s.reads, order_back g.decl o (values_of g.decl here) s.jump s.held, s.strobe, s.shown);
      chip = rw (s.reads, order_back g.decl o (values_of g.decl here) s.jump s.held, s.latch);
      flow = refl;
      stands = record {
        in_matrix = s.in_matrix;
        there = s.there;
        pr = after_pr g.decl.slices o b (latch_after here m.pr b.sx) m s.below;
      };
    }

-- at a label's cell
label_says : (g : Graph) (place : List Position) (words : List ℕ) (cell : Position) (label : ℕ) (m : Machine) (b : Buses) (instr : Instr)
    → IsGraph g → HoldsProgram g place words → IsCell cell → m.pr < 16 → b.px < 16 → b.sx < 16
    → slice_get place label ≡ Some cell → slice_get g.instrs label ≡ Some instr → Says g place words cell (Some instr) m b
label_says g place words cell label m b instr graph holds in_matrix pr px sx at here =
    let o : Order = order_of g.decl (Some instr) in
    let t : Readings = readings_in g (Some instr) m b in
    let w = holds.labels label instr cell here at in
    let jump : JumpWord = w.0 in
    let meets : MeetsLegality place instr cell jump = w.1 in
    let held : IsHeld g.decl o instr.values =
    instr_held g.decl instr (graph.microwords.each label instr here) in
    let same : Agrees instr.kind jump t b.sx = agrees instr.kind jump t b.sx meets.admitted in
    let out : ℕ = outcome_of instr.kind t in
    let below : out < outcomes_of instr.kind = outcome_below instr.kind t pr px in
    let within : out < length instr.targets =
    subst (λ (n : ℕ). out < n) (sym (graph.program.each_instr label instr here).target_for_each_outcome) below in
    let target = element_at instr.targets out within in
    record {
      jump = jump;
      reads = ap (parts_of g.decl) w.2 ∙ read_back g.decl o instr.values jump held meets.in_range;
      held = held;
      in_matrix = rw same.outcome (lands_in cell jump out in_matrix meets.in_range (subst (λ (n : ℕ). out < n) (sym same.count) below));
      there = rw (same.outcome, target.1) (meets.landings out target.0 target.1);
      latch = same.latch;
      strobe = same.strobe;
      shown = same.shown;
      below = latch_below instr.kind m.pr b.sx pr sx;
    }

-- at a free cell, whose word is JCC to its own row
trap_says : (g : Graph) (place : List Position) (words : List ℕ) (cell : Position) (m : Machine) (b : Buses)
    → IsGraph g → HoldsProgram g place words → IsCell cell → m.pr < 16 → IsAt place None cell → Says g place words cell None m b
trap_says g place words cell m b graph holds in_matrix pr at =
    let o : Order = order_of g.decl None in
    let held : IsHeld g.decl o (values_of g.decl None) = free_held g.decl graph.declares in
    record {
      jump = free_jump cell;
      reads = ap (parts_of g.decl) (holds.free cell in_matrix at)
          ∙ read_back g.decl o (values_of g.decl None) (free_jump cell) held in_matrix.row;
      held = held;
      in_matrix = in_matrix;
      there = at;
      latch = refl;
      strobe = refl;
      shown = refl;
      below = pr;
    }

pub goes : (g : Graph) (place : List Position) (words : List ℕ) (cell : Position) (at : Option ℕ) (m : Machine) (b : Buses)
    → IsGraph g → IsLegal g place → HoldsProgram g place words → b.px < 16 → b.sx < 16 → Stands place cell at m
    → Goes g place words cell at m b
goes g place words cell None m b graph legal holds px sx s =
    goes_by g place words cell None m b (trap_says g place words cell m b graph holds s.in_matrix s.pr s.there)
goes g place words cell (Some label) m b graph legal holds px sx s =
    let within : label < length g.instrs =
    subst (λ (n : ℕ). label < n) legal.cell_for_each_label (slice_get_within place label cell s.there) in
    let here = element_at g.instrs label within in
    goes_by g place words cell (Some label) m b
    (rw here.1 (label_says g place words cell label m b here.0 graph holds s.in_matrix s.pr px sx s.there here.1))
