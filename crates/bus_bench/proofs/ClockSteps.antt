-- One clock of the bench, by the answer of the array and the flag step of the 3001.
use Rattle.std.proofs.Common.{◌≡◌, ℕ, ◌+◌, ◌/◌, ◌<◌, ◌^◌, Bool, List, Option, refl, ◌∙◌}
use Rattle.std.proofs.lemmas.Nat.{pow_pos}
use Rattle.std.proofs.Math.Nat.{mod-lt}
use Rattle.cpe_slice.specs.Registers.{Registers}
use Rattle.mcu_jumps.specs.Position.{Position}
use Rattle.mcu_chip.specs.FlagStep.{next_pr, is_strobe, pr_shown}
use Rattle.field_decl.specs.Declaration.{Declaration}
use Rattle.flow_graph.specs.Order.{Order}
use Rattle.bus_script.specs.declared.buses.Buses.{Buses}
use Rattle.bus_script.specs.declared.clock_view.ClockView.{ClockView}
use Rattle.bus_script.specs.Script.{BusScript}
use Rattle.prom_split.specs.declared.word_parts.WordParts.{WordParts}
use Rattle.prom_split.specs.Parts.{parts_of}
use Rattle.flow_sim.specs.Machine.{Machine, start_machine, array_of, fi_of, changed, after, seen, view_of}
use Rattle.bus_bench.specs.Chip.{BenchState, bench_start, order_by, step_by, view_by, chip_step, chip_view}

-- the K bits of a word are as many as are declared
pub kbits_below : (decl : Declaration) (word : ℕ) → (parts_of decl word).kbits < 2 ^ decl.kbus
unfolding parts_of
kbits_below decl word = mod-lt (word / 2 ^ 18) (pow_pos decl.kbus)

-- the machine after a clock, from the array's answer and the latch
pub machine_after : (decl : Declaration) (parts : WordParts) (cell : Position) (m : Machine) (b : Buses) (order : Order)
    (registers : Registers) (fi : Bool) (pr : ℕ) (next : Machine)
    → order ≡ order_by decl parts → registers ≡ (array_of decl.slices order b m).registers → fi ≡ fi_of decl.slices order b m
    → pr ≡ next_pr parts.jump.code m.pr b.sx
    → next ≡ changed order registers fi pr m → next ≡ (step_by decl parts (record { cell = cell; machine = m }) b).machine
unfolding step_by after
machine_after decl parts cell m b order registers fi pr next is_order is_registers is_fi is_pr ends =
    ends ∙ rw (is_registers, is_fi, is_pr, is_order)

-- what is seen of a clock, from the array's answer and the outputs
pub view_after : (decl : Declaration) (parts : WordParts) (cell : Position) (m : Machine) (b : Buses) (order : Order) (ise : Bool)
    (shown : Option ℕ) (links : ℕ) (view : ClockView)
    → order ≡ order_by decl parts → links ≡ (array_of decl.slices order b m).links → ise ≡ is_strobe parts.jump.code parts.jump.operand
    → shown ≡ pr_shown parts.jump.code m.pr
    → view ≡ seen m ise shown parts.values links → view ≡ view_by decl parts (record { cell = cell; machine = m }) b
unfolding view_by view_of
view_after decl parts cell m b order ise shown links view is_order is_links is_ise is_shown shows =
    shows ∙ rw (is_links, is_ise, is_shown, is_order)

-- a clock shows the latch as it begins
pub view_pr : (words : List ℕ) (decl : Declaration) (s : BenchState) (b : Buses) → (chip_view words decl s b).pr ≡ s.machine.pr
unfolding chip_view view_by view_of
view_pr words decl s b = refl

-- the first clock has number 0, and each next clock the next number
pub start_clock : (script : BusScript) → (bench_start script).machine.clock ≡ 0
unfolding bench_start start_machine
start_clock script = refl

pub step_clock : (words : List ℕ) (decl : Declaration) (s : BenchState) (b : Buses)
    → (chip_step words decl s b).machine.clock ≡ s.machine.clock + 1
unfolding chip_step step_by after
step_clock words decl s b = refl
