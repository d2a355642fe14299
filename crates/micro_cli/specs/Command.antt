-- The commands, and the words that ask for them (this project's own choice).
use Rattle.std.specs.Prelude.{ℕ, List, [], ◌∷◌, Option, None, Some, Bool, ◌&&◌, nat_lt, nat_le, length, take, drop, codes, if◌then◌else◌}
use Rattle.std.specs.Char.{is_ascii_digit}
use Rattle.std.specs.List.{list_all}
use Rattle.std.specs.Str.{bytes_eq}
use Rattle.std.specs.Str.Parse.{digits_value}
use Rattle.io_base.specs.declared.names.TheConstants.{GIVEN_NAME_LIMIT}
use Rattle.micro_cli.specs.declared.command_words.TheConstants.{CLOCK_LIMIT, CONFLICT_LIMIT}

-- what the program is asked for, with the names of the files, the number of clocks and the budget of conflicts
pub data Command : Type 0 where
  -- `map SRC`: the map of a source
  map : List ℕ → Command
  -- `flow SRC SCRIPT clocks=N`: the trace of the symbolic flow of a source
  flow : List ℕ → List ℕ → ℕ → Command
  -- `run OUT SCRIPT clocks=N`: the trace of saved images on the bench
  run : List ℕ → List ℕ → ℕ → Command
  -- `make SRC SCRIPT OUT clocks=N conflicts=B`: a placement saved as images, read back and run, or a refutation, or a
  -- budget spent
  make : List ℕ → List ℕ → List ℕ → ℕ → ℕ → Command
  -- `check SRC REF`: whether a file is a refutation of a source
  check : List ℕ → List ℕ → Command

-- bytes from 0x21 to 0x7e
abbrev pub is_printable : List ℕ → Bool
is_printable bytes = list_all (λ b. nat_le 33 b && nat_le b 126) bytes

-- a name of a file: 1 to 200 printable bytes
abbrev pub is_file_name : List ℕ → Bool
is_file_name bytes = nat_lt 0 (length bytes) && nat_le (length bytes) GIVEN_NAME_LIMIT && is_printable bytes

-- a number: 1 to 20 decimal digits
abbrev pub is_number : List ℕ → Bool
is_number digits = nat_lt 0 (length digits) && nat_le (length digits) 20 && list_all is_ascii_digit digits

-- the number that these bytes write, where it is one up to this limit
abbrev pub number_up_to : ℕ → List ℕ → Option ℕ
number_up_to limit digits = if is_number digits && nat_le (digits_value 10 digits) limit then Some (digits_value 10 digits) else None

-- the number after this key in a word
abbrev pub number_after : List ℕ → ℕ → List ℕ → Option ℕ
number_after key limit word = if bytes_eq key (take (length key) word) then number_up_to limit (drop (length key) word) else None

-- the clocks of a word `clocks=N`, up to 65,536
abbrev pub clocks_in : List ℕ → Option ℕ
clocks_in word = number_after (codes "clocks=") CLOCK_LIMIT word

-- the command that prints a map
abbrev pub map_command : List ℕ → List ℕ → Option Command
map_command word src = if bytes_eq word (codes "map") && is_file_name src then Some (map src) else None

-- the command that prints a trace
abbrev pub trace_command : List ℕ → List ℕ → List ℕ → ℕ → Option Command
trace_command word file script clocks =
    if bytes_eq word (codes "flow") then Some (flow file script clocks)
    else if bytes_eq word (codes "run") then Some (run file script clocks)
    else None

-- the same, where the names are names of files and the clocks are given
abbrev pub trace_by : List ℕ → List ℕ → List ℕ → Option ℕ → Option Command
trace_by word file script None = None
trace_by word file script (Some clocks) = if is_file_name file && is_file_name script then trace_command word file script clocks else None

-- the conflicts of a word `conflicts=B`, up to 1,000,000
abbrev pub conflicts_in : List ℕ → Option ℕ
conflicts_in word = number_after (codes "conflicts=") CONFLICT_LIMIT word

-- the names of a source, a script and an output
abbrev pub are_file_names : List ℕ → List ℕ → List ℕ → Bool
are_file_names src script out = is_file_name src && is_file_name script && is_file_name out

-- the command that makes images, where the numbers are given
abbrev pub make_by : List ℕ → List ℕ → List ℕ → List ℕ → Option ℕ → Option ℕ → Option Command
make_by word src script out None conflicts = None
make_by word src script out (Some clocks) None = None
make_by word src script out (Some clocks) (Some conflicts) =
    if bytes_eq word (codes "make") && are_file_names src script out then Some (make src script out clocks conflicts) else None

-- the command that checks a refutation
abbrev pub check_command : List ℕ → List ℕ → List ℕ → Option Command
check_command word src refutation =
    if bytes_eq word (codes "check") && is_file_name src && is_file_name refutation then Some (check src refutation) else None

-- the command of these words, where they are one
abbrev pub command_of : List (List ℕ) → Option Command
command_of (word ∷ src ∷ []) = map_command word src
command_of (word ∷ src ∷ refutation ∷ []) = check_command word src refutation
command_of (word ∷ file ∷ script ∷ clocks ∷ []) = trace_by word file script (clocks_in clocks)
command_of (word ∷ src ∷ script ∷ out ∷ clocks ∷ conflicts ∷ []) = make_by word src script out (clocks_in clocks) (conflicts_in conflicts)
command_of _ = None
