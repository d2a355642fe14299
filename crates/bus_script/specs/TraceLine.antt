-- The trace line of a clock. This is this project's own format.
use Rattle.std.specs.Prelude.{ℕ, zero, suc, ◌+◌, ◌*◌, ◌/◌, ◌%◌, ◌^◌, Bool, false, List, [], ◌∷◌, ◌++◌, Option, Some, None, codes, decimal, if◌then◌else◌}
use Rattle.std.specs.Fmt.{digit_glyph}
use Rattle.std.specs.List.{join_by}
use Rattle.slice_array.specs.declared.regs.Regs.{Regs}
use Rattle.bus_script.specs.declared.clock_view.ClockView.{ClockView}

-- ---- digits

-- a hexadecimal digit in lower case
abbrev pub hex_digit : ℕ → ℕ
hex_digit value = digit_glyph false value

-- so many hexadecimal digits, the highest first
unfoldable pub hex_digits : ℕ → ℕ → List ℕ
hex_digits zero number = []
hex_digits (suc place) number = hex_digit (number / 2 ^ (4 * place) % 16) ∷ hex_digits place number

-- a word of an array of this many slices, which has 2 bits a slice
abbrev pub word_text : ℕ → ℕ → List ℕ
word_text slices word = hex_digits ((slices + 1) / 2) word

-- a flag as a digit
abbrev pub bit_digit : Bool → ℕ
bit_digit bit = if bit then 49 else 48

-- so many links, the highest slice first
unfoldable pub link_digits : ℕ → ℕ → List ℕ
link_digits zero links = []
link_digits (suc slice) links = (48 + links / 2 ^ slice % 2) ∷ link_digits slice links

-- ---- the parts of a line

-- the clock's number and the place
abbrev pub place_text : List ℕ → ℕ → List ℕ
place_text place clock = decimal clock ++ codes " " ++ place

-- A is MAR, D is AC, then T and R0 to R9
abbrev pub registers_text : ℕ → Regs → List ℕ
registers_text slices regs =
    codes " A=" ++ word_text slices regs.mar ++ codes " D=" ++ word_text slices regs.ac ++ codes " T=" ++ word_text slices regs.t
    ++ codes " R=" ++ join_by (word_text slices) (codes ",") regs.r

-- what the PR outputs show, or `-` where they show nothing
abbrev pub shown_text : Option ℕ → List ℕ
shown_text (Some shown) = decimal shown
shown_text None = codes "-"

-- the flags F, C and Z, the PR latch, its outputs, and the interrupt strobe
abbrev pub control_text : ClockView → List ℕ
control_text view =
    codes " C=" ++ (bit_digit view.f ∷ bit_digit view.c ∷ bit_digit view.z ∷ []) ++ codes " L=" ++ (hex_digit view.pr ∷ []) ++ codes " P="
    ++ shown_text view.pr_out
    ++ codes " S=" ++ (bit_digit view.ise ∷ [])

-- the user fields in declared order, or `-` where there is none
abbrev pub fields_text : List ℕ → List ℕ
fields_text [] = codes "-"
fields_text (value ∷ values) = join_by decimal (codes ",") (value ∷ values)

-- the user fields, and the links of the clock
abbrev pub fields_and_links_text : ℕ → List ℕ → ℕ → List ℕ
fields_and_links_text slices values links = codes " U=" ++ fields_text values ++ codes " Y=" ++ link_digits slices links

-- ---- the line

-- the line of a clock at a place, for an array of this many slices
unfoldable pub trace_line : List ℕ → ClockView → ℕ → List ℕ
trace_line place view slices =
    place_text place view.clock ++ registers_text slices view.regs ++ control_text view
    ++ fields_and_links_text slices view.values view.links ++ codes "\n"
