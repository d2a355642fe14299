-- The bus script of a case, line by line (this project's own choice).
use Rattle.std.specs.Prelude.{ℕ, List, [], ◌∷◌, map, codes}
use Rattle.std.specs.List.{range_with_len}
use Rattle.text_pieces.specs.Pieces.{Piece, Space, Equals, Name, Number}
use Rattle.text_pieces.specs.PieceLines.{lines_text}
use Rattle.gen_case.specs.Draws.{state_after, draw}

-- all 64 clocks
unfoldable pub clocks : List ℕ
clocks = range_with_len 0 64

-- the word on the I bus in a clock of a script whose draws begin at a state
abbrev pub word_at : ℕ → ℕ → ℕ
word_at state clock = draw state clock 65536

-- a clock with this word on the I bus
abbrev pub clock_line : ℕ → List Piece
clock_line word = Name (codes "clk") ∷ Space ∷ Name (codes "i") ∷ Equals ∷ Number word ∷ []

-- a line for each clock, with the draws that begin at a state
unfoldable pub script_from : ℕ → List ℕ
script_from state = lines_text (map (λ clock. clock_line (word_at state clock)) clocks)

-- the script of a case: its source of 128 labels took 640 draws before
abbrev pub script_text : ℕ → List ℕ
script_text number = script_from (state_after number 640)
