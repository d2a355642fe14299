-- A text of lines of pieces.
use Rattle.std.specs.Prelude.{ℕ, List, [], ◌∷◌, ◌++◌}
use Rattle.std.specs.List.{AllByRecursion}
use Rattle.text_pieces.specs.Pieces.{Piece, pieces_text, AreReadable}

-- a line with its LF
abbrev pub line_text : List Piece → List ℕ
line_text pieces = pieces_text pieces ++ 10 ∷ []

-- the text of all lines
abbrev pub lines_text : List (List Piece) → List ℕ
lines_text [] = []
lines_text (line ∷ rest) = line_text line ++ lines_text rest

-- each line can be read
abbrev pub AreReadableLines : List (List Piece) → Type 0
AreReadableLines lines = AllByRecursion AreReadable lines
