-- What a `Script` holds.
use Rattle.bus_script.specs.declared.script.Script.TheInside.{Inside}
use Rattle.bus_script.specs.Script.{BusScript}

-- its memory words and its buses, in order
abbrev pub script_in : Inside → BusScript
script_in script = record { memory = script.memory.entries; clocks = script.clocks.items }
