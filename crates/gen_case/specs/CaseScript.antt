-- What the script of a case says (this project's own choice).
use Rattle.std.specs.Prelude.{ℕ, [], map, None}
use Rattle.bus_script.specs.declared.buses.Buses.{Buses}
use Rattle.bus_script.specs.Script.{BusScript}
use Rattle.gen_case.specs.Draws.{state_after}
use Rattle.gen_case.specs.ScriptText.{word_at, clocks}

-- a word on the I bus, M from the memory, and nothing else
abbrev pub buses_with : ℕ → Buses
buses_with word = record { m = None; i = word; px = 0; sx = 0 }

-- no memory word is named, and each clock has its word
unfoldable pub said_from : ℕ → BusScript
said_from state = record { memory = []; clocks = map (λ clock. buses_with (word_at state clock)) clocks }

-- what the script of a case says
abbrev pub case_script : ℕ → BusScript
case_script number = said_from (state_after number 640)
