-- The whole words that slices of two bits make, slice 0 the least significant. This wiring is this project's own
-- choice.
use Rattle.std.specs.Prelude.{ℕ, List, [], ◌∷◌, ◌+◌, ◌*◌, ◌/◌, ◌%◌, ◌^◌, replicate, map}
use Rattle.cpe_slice.specs.Registers.{Registers, AllBelow}

-- each digit, to the base 4, below the whole word that stands above it
abbrev pub join_list : List ℕ → List ℕ → List ℕ
join_list [] ws = []
join_list (d ∷ ds) [] = []
join_list (d ∷ ds) (w ∷ ws) = (w * 4 + d) ∷ join_list ds ws

-- the registers of a slice below those of the slices above it
abbrev pub join : Registers → Registers → Registers
join s w = record { r = join_list s.r w.r; t = w.t * 4 + s.t; ac = w.ac * 4 + s.ac; mar = w.mar * 4 + s.mar }

-- every register holds 0
abbrev pub zero_registers : Registers
zero_registers = record { r = replicate 10 0; t = 0; ac = 0; mar = 0 }

-- the whole words of the slices, the first of which has the least significant digits
abbrev pub whole : List Registers → Registers
whole [] = zero_registers
whole (s ∷ ss) = join s (whole ss)

-- each slice has ten registers R, and every register is below 4
abbrev pub AllSlices : List Registers → Type 0
AllSlices [] = Unit {0}
AllSlices (s ∷ ss) = AllBelow 4 s × AllSlices ss

-- base-4 digit i of a word
abbrev pub digit_of : ℕ → ℕ → ℕ
digit_of i x = x / 4 ^ i % 4

-- base-4 digit i of each register
unfoldable pub digit : ℕ → Registers → Registers
digit i w = record { r = map (digit_of i) w.r; t = digit_of i w.t; ac = digit_of i w.ac; mar = digit_of i w.mar }
