-- The map text (this project's own format).
use Rattle.std.specs.Prelude.{ℕ, ◌≡◌, ◌+◌, ◌/◌, ◌%◌, List, [], ◌∷◌, ◌++◌, codes, decimal, nat_lt, if◌then◌else◌}
use Rattle.mcu_jumps.specs.Position.{Position}
use Rattle.mcu_jumps.specs.JumpWord.{JumpWord, ac_of}
use Rattle.mcu_jumps.specs.CodeName.{name_of}
use Rattle.flow_graph.specs.declared.instructions.Instr.{Instr}
use Rattle.flow_graph.specs.Graph.{Graph}
use Rattle.place_model.specs.Legal.{IsJumpOf}

-- a hexadecimal digit in lower case
abbrev pub hex_digit : ℕ → ℕ
hex_digit n = if nat_lt n 10 then 48 + n else 87 + n

-- two hexadecimal digits
abbrev pub hex_byte : ℕ → List ℕ
hex_byte n = hex_digit (n / 16) ∷ hex_digit (n % 16) ∷ []

-- a cell: row.column
abbrev pub cell_text : Position → List ℕ
cell_text cell = decimal cell.row ++ codes "." ++ decimal cell.col

-- a jump: AC value, code and operand
abbrev pub jump_text : JumpWord → List ℕ
jump_text jump = hex_byte (ac_of jump) ++ codes " " ++ name_of jump.code ++ codes " " ++ decimal jump.operand

-- the line of a label: name, cell and jump
abbrev pub map_line : List ℕ → Position → JumpWord → List ℕ
map_line name cell jump = name ++ codes " " ++ cell_text cell ++ codes " " ++ jump_text jump ++ codes "\n"

-- the text is a line for each of these instructions at these cells, with the jump that it becomes there
abbrev pub AreLines : List Position → List Instr → List Position → List ℕ → Type 0
AreLines place [] [] text = text ≡ []
AreLines place [] (cell ∷ cells) text = ⊥
AreLines place (instr ∷ instrs) [] text = ⊥
AreLines place (instr ∷ instrs) (cell ∷ cells) text =
    (jump : JumpWord) × (rest : List ℕ) × IsJumpOf place instr cell jump
    × (text ≡ map_line instr.name cell jump ++ rest) × AreLines place instrs cells rest

-- the map text: a line for each label, in source order
abbrev pub IsMapText : Graph → List Position → List ℕ → Type 0
IsMapText g place text = AreLines place g.instrs place text
