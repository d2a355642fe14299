-- The script read line by line, going from what is said to what is said.
use Rattle.std.specs.Prelude.{ℕ, List, [], ◌∷◌, ◌++◌, Result, Ok}
use Rattle.field_decl.specs.LineByLine.{lines_taken}
use Rattle.field_decl.specs.Results.{◌>>=◌}
use Rattle.bus_script.specs.declared.fault.ScriptKind.{ScriptKind}
use Rattle.bus_script.specs.Script.{Said, Nothing, MemoryWord, Clock, BusScript, line_said}

-- what one line more adds
abbrev pub with_line : BusScript → Said → BusScript
with_line script Nothing = script
with_line script (MemoryWord address value) = record script { memory = script.memory ++ (address, value) ∷ [] }
with_line script (Clock buses) = record script { clocks = script.clocks ++ buses ∷ [] }

-- the script with what a line says, unless that is refused
abbrev pub with_said : BusScript → Result Said ScriptKind → Result BusScript ScriptKind
with_said script said = said >>= λ line. Ok (with_line script line)

-- the script after the line of this number
abbrev pub after_line : ℕ → BusScript → ℕ → List ℕ → Result BusScript ScriptKind
after_line slices script number line = with_said script (line_said slices number script.memory line)

-- the script after these lines, of which the first has this number
abbrev pub after_lines : ℕ → BusScript → ℕ → List (List ℕ) → Result BusScript (ℕ × ScriptKind)
after_lines slices script number all = lines_taken (after_line slices) script number all
