-- What one clock does to registers, flags and memory, whatever comes next. The memory, the start and the order of
-- events are this project's own choice; array and flags are those of the 3002 and the 3001.
use Rattle.std.specs.Prelude.{ℕ, ◌≡◌, ◌+◌, ◌%◌, ◌^◌, ◌<◌, ◌==◌, Bool, false, List, length, map, Option, Some, None, All, slice_index, slice_set, if◌then◌else◌, IsTrue}
use Rattle.std.specs.List.{range_with_len}
use Rattle.mcu_jumps.specs.Readings.{Readings}
use Rattle.mcu_chip.specs.FlagStep.{flag_out, next_c, next_z}
use Rattle.cpe_slice.specs.Registers.{Registers, AllBelow}
use Rattle.cpe_slice.specs.FunctionCode.{is_shift}
use Rattle.cpe_slice.specs.WordStep.{StepOutcome, array_step, inputs_of}
use Rattle.slice_array.specs.declared.regs.Regs.{Regs}
use Rattle.slice_array.specs.Whole.{zero_registers}
use Rattle.flow_graph.specs.Order.{Order}
use Rattle.bus_script.specs.declared.buses.Buses.{Buses}
use Rattle.bus_script.specs.declared.clock_view.ClockView.{ClockView}
use Rattle.bus_script.specs.Script.{BusScript, initial_at}

-- ---- what is kept from clock to clock, but for the place

-- the clock's number, the registers, the flags F, C and Z, the PR latch, and the words of the memory
pub record Machine : Type 0 where
  pub clock : ℕ
  pub registers : Registers
  pub f : Bool
  pub c : Bool
  pub z : Bool
  pub pr : ℕ
  pub memory : List ℕ

-- what a script names for so many addresses from 0
unfoldable pub first_words : BusScript → ℕ → List ℕ
first_words script count = map (initial_at script) (range_with_len 0 count)

-- before the first clock registers, flags and latch are 0, and the 4,096 words of the memory are as the script names
unfoldable pub start_machine : BusScript → Machine
start_machine script = record {
  clock = 0;
  registers = zero_registers;
  f = false;
  c = false;
  z = false;
  pr = 0;
  memory = first_words script 4096;
}

-- registers and the 4,096 words of the memory fit an array of this many slices, and the latch has four bits
pub record IsMachineFor (slices : ℕ) (s : Machine) : Type 0 where
  pub registers : AllBelow (4 ^ slices) s.registers
  pub words : length s.memory ≡ 4096
  pub memory : All (λ word. word < 4 ^ slices) s.memory
  pub pr : s.pr < 16

-- an order for an array of this many slices: the mask of the right shift is 0
pub record IsOrderFor (slices : ℕ) (order : Order) : Type 0 where
  pub mask : order.mask < 4 ^ slices
  pub shift : IsTrue (is_shift order.func) → order.mask ≡ 0

-- ---- one clock

-- the word of the memory that MAR addresses
abbrev pub address_of : Machine → ℕ
address_of s = s.registers.mar % 4096

-- M: what the script drives, else the addressed word
abbrev pub m_bus : Option ℕ → Machine → ℕ
m_bus (Some m) s = m
m_bus None s = slice_index s.memory (address_of s)

-- FO, from C and Z as the clock begins
abbrev pub fo_of : Order → Machine → Bool
fo_of order s = flag_out order.ctl.output s.c s.z

-- the array's answer, with FO on CI and LI
unfoldable pub array_of : ℕ → Order → Buses → Machine → StepOutcome
array_of slices order b s =
    array_step slices order.func (inputs_of order.mask (m_bus b.m s) b.i (fo_of order s) (fo_of order s)) s.registers

-- the flag input
unfoldable pub fi_of : ℕ → Order → Buses → Machine → Bool
fi_of slices order b s = (array_of slices order b s).fi == 1

-- what decides where the flow goes on: F takes this clock's flag input first, the others are as the clock begins
abbrev pub readings_of : Machine → Bool → ℕ → Readings
readings_of s fi px = record { f = fi; c = s.c; z = s.z; pr = s.pr; px = px }

-- the memory after a clock: where it is written, the addressed word becomes AC as the clock begins
abbrev pub memory_after : Bool → Machine → List ℕ
memory_after write s = if write then slice_set s.memory (address_of s) s.registers.ac else s.memory

-- the machine after a clock with these new registers and this flag input, whose PR latch is then pr
abbrev pub changed : Order → Registers → Bool → ℕ → Machine → Machine
changed order registers fi pr s = record {
  clock = s.clock + 1;
  registers = registers;
  f = fi;
  c = next_c order.ctl.input s.c fi;
  z = next_z order.ctl.input s.z fi;
  pr = pr;
  memory = memory_after order.write s;
}

-- the machine after a clock whose PR latch is then pr
unfoldable pub after : ℕ → Order → Buses → ℕ → Machine → Machine
after slices order b pr s = changed order (array_of slices order b s).registers (fi_of slices order b s) pr s

-- ---- what is seen of a clock

-- the same thirteen words
abbrev pub regs_of : Registers → Regs
regs_of registers = record { r = registers.r; t = registers.t; ac = registers.ac; mar = registers.mar }

-- what is seen of a clock as it begins, with this strobe, these PR outputs, these user fields and these links
abbrev pub seen : Machine → Bool → Option ℕ → List ℕ → ℕ → ClockView
seen s ise pr_out values links = record {
  clock = s.clock;
  regs = regs_of s.registers;
  f = s.f;
  c = s.c;
  z = s.z;
  pr = s.pr;
  pr_out = pr_out;
  ise = ise;
  values = values;
  links = links;
}

-- what is seen of a clock with this strobe, these PR outputs and these user fields
unfoldable pub view_of : ℕ → Order → Buses → Bool → Option ℕ → List ℕ → Machine → ClockView
view_of slices order b ise pr_out values s = seen s ise pr_out values (array_of slices order b s).links
