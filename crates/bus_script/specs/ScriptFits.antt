-- Scripts whose values fit an array. The ranges are this project's own choice.
use Rattle.std.specs.Prelude.{ℕ, ◌^◌, ◌<◌, nat_eq, All, IfSome}
use Rattle.std.specs.List.{IsDistinct}
use Rattle.std.specs.Map.{keys_of}
use Rattle.bus_script.specs.declared.buses.Buses.{Buses}
use Rattle.bus_script.specs.Script.{BusScript}

-- the buses of an array of this many slices: words on M and I, 4 bits on PX and SX
pub record AreBusesFor (slices : ℕ) (buses : Buses) : Type 0 where
  pub m : IfSome buses.m (λ word. word < 4 ^ slices)
  pub i : buses.i < 4 ^ slices
  pub px : buses.px < 16
  pub sx : buses.sx < 16

-- an address of the memory, and a word of an array of this many slices
pub record IsMemoryWordFor (slices : ℕ) (word : ℕ × ℕ) : Type 0 where
  pub address : word.0 < 4096
  pub value : word.1 < 4 ^ slices

-- all values of a script fit an array of this many slices, and no address is named twice
pub record IsScriptFor (slices : ℕ) (script : BusScript) : Type 0 where
  pub memory : All (IsMemoryWordFor slices) script.memory
  pub distinct : IsDistinct nat_eq (keys_of script.memory)
  pub clocks : All (AreBusesFor slices) script.clocks
