-- A bus script: what a text says, or its first refused line. This is this project's own format.
use Rattle.std.specs.Prelude.{ℕ, ◌+◌, ◌^◌, ◌||◌, nat_eq, nat_le, nat_lt, List, [], ◌∷◌, length, Option, Some, None, is_some, unwrap_or, Result, Ok, Err, codes, slice_get, if◌then◌else◌}
use Rattle.std.specs.List.{filter_map}
use Rattle.std.specs.Map.{lookup}
use Rattle.std.specs.Str.{bytes_eq}
use Rattle.micro_lex.specs.Lines.{lines}
use Rattle.field_decl.specs.LineByLine.{lines_read}
use Rattle.field_decl.specs.Results.{◌>>=◌}
use Rattle.field_decl.specs.declared.word.Word.{Word}
use Rattle.field_decl.specs.declared.word.Word.TheVariants.{Name, Number}
use Rattle.bus_script.specs.declared.buses.Buses.{Buses}
use Rattle.bus_script.specs.declared.fault.ScriptKind.{ScriptKind}
use Rattle.bus_script.specs.declared.fault.ScriptKind.TheVariants as kinds
use Rattle.bus_script.specs.Settings.{clock_buses}
use Rattle.bus_script.specs.Words.{words_of}

-- ---- what lines say

-- nothing; the value of the memory at an address before the first clock; or the buses of the next clock
pub data Said : Type 0 where
  Nothing : Said
  MemoryWord : ℕ → ℕ → Said
  Clock : Buses → Said

-- the addresses that are named, each with its value, and the buses of each clock from the first
pub record BusScript : Type 0 where
  pub memory : List (ℕ × ℕ)
  pub clocks : List Buses

-- the address that a line names, with its value
abbrev pub memory_word_in : Said → Option (ℕ × ℕ)
memory_word_in (MemoryWord address value) = Some (address, value)
memory_word_in _ = None

-- the buses that a line gives
abbrev pub clock_in : Said → Option Buses
clock_in (Clock buses) = Some buses
clock_in _ = None

-- what these lines say together
abbrev pub script_by : List Said → BusScript
script_by said = record { memory = filter_map memory_word_in said; clocks = filter_map clock_in said }

-- ---- what a script means

-- the value that is named for an address
abbrev pub value_at : List (ℕ × ℕ) → ℕ → Option ℕ
value_at memory address = lookup (nat_eq address) memory

-- the memory's value at an address before the first clock
abbrev pub initial_at : BusScript → ℕ → ℕ
initial_at script address = unwrap_or (value_at script.memory address) 0

-- all buses are 0, and the memory drives the M bus
abbrev pub idle : Buses
idle = record { m = None; i = 0; px = 0; sx = 0 }

-- the buses of a clock; they are idle after the last that the script gives
abbrev pub buses_at : BusScript → ℕ → Buses
buses_at script clock = unwrap_or (slice_get script.clocks clock) idle

-- ---- the lines

-- an address above 4095 or a value above the greatest word, and then an address that an earlier line names, are refused
abbrev pub memory_word_line : ℕ → List (ℕ × ℕ) → ℕ → ℕ → Result Said ScriptKind
memory_word_line slices memory address value =
    if nat_lt 4095 address || nat_le (4 ^ slices) value then Err kinds.Value
    else if is_some (value_at memory address) then Err kinds.Twice
    else Ok (MemoryWord address value)

-- the line `mem ADDRESS VALUE`
abbrev pub memory_line : ℕ → List (ℕ × ℕ) → List Word → Result Said ScriptKind
memory_line slices memory (Number address ∷ Number value ∷ []) = memory_word_line slices memory address value
memory_line slices memory _ = Err kinds.Shape

-- the line `clk` with any number of `KEY = NUMBER`: the buses of the next clock
abbrev pub clock_line : ℕ → List Word → Result Said ScriptKind
clock_line slices words = clock_buses slices words >>= λ buses. Ok (Clock buses)

-- a line is of `mem` or of `clk`
unfoldable pub keyword_line : ℕ → List (ℕ × ℕ) → List ℕ → List Word → Result Said ScriptKind
keyword_line slices memory keyword words =
    if bytes_eq keyword (codes "mem") then memory_line slices memory words
    else if bytes_eq keyword (codes "clk") then clock_line slices words
    else Err kinds.Word

-- what a line of these words says after lines that name these addresses
abbrev pub words_said : ℕ → List (ℕ × ℕ) → List Word → Result Said ScriptKind
words_said slices memory [] = Ok Nothing
words_said slices memory (Name keyword ∷ words) = keyword_line slices memory keyword words
words_said slices memory _ = Err kinds.Word

-- what the line of this number says; a script has at most 65,536 lines
unfoldable pub line_said : ℕ → ℕ → List (ℕ × ℕ) → List ℕ → Result Said ScriptKind
line_said slices number memory line = if nat_lt 65536 number then Err kinds.Lines else words_of line >>= words_said slices memory

-- what a line says after these lines, or why it is refused
abbrev pub line_read : ℕ → List Said → List ℕ → Result Said ScriptKind
line_read slices earlier line = line_said slices (length earlier + 1) (script_by earlier).memory line

-- the script of a text for an array of this many slices, or the first refused line
abbrev pub script_of : ℕ → List ℕ → Result BusScript (ℕ × ScriptKind)
script_of slices bytes = lines_read (line_read slices) [] (lines bytes) >>= λ said. Ok (script_by said)
