-- A line of a source or a script as pieces: what is written, and the words as which it is read. This is this project's
-- own way to state texts.
use Rattle.std.specs.Prelude.{◌≡◌, ℕ, ◌^◌, ◌<◌, Bool, false, true, List, [], ◌∷◌, ◌++◌, decimal}
use Rattle.micro_lex.specs.Names.{IsName}
use Rattle.field_decl.specs.declared.word.Word.{Word}
use Rattle.field_decl.specs.declared.word.Word.TheVariants as words

-- a space, a mark, a name or a decimal number
pub data Piece : Type 0 where
  Space : Piece
  Colon : Piece
  Bar : Piece
  Equals : Piece
  Minus : Piece
  Name : List ℕ → Piece
  Number : ℕ → Piece

-- the bytes of a piece
abbrev pub piece_text : Piece → List ℕ
piece_text Space = 32 ∷ []
piece_text Colon = 58 ∷ []
piece_text Bar = 124 ∷ []
piece_text Equals = 61 ∷ []
piece_text Minus = 45 ∷ []
piece_text (Name text) = text
piece_text (Number number) = decimal number

-- the bytes of all pieces, one after the other
abbrev pub pieces_text : List Piece → List ℕ
pieces_text [] = []
pieces_text (piece ∷ pieces) = piece_text piece ++ pieces_text pieces

-- the words as which the pieces are read: a space is none
abbrev pub words_in : List Piece → List Word
words_in [] = []
words_in (Space ∷ pieces) = words_in pieces
words_in (Colon ∷ pieces) = words.Colon ∷ words_in pieces
words_in (Bar ∷ pieces) = words.Bar ∷ words_in pieces
words_in (Equals ∷ pieces) = words.Equals ∷ words_in pieces
words_in (Minus ∷ pieces) = words.Minus ∷ words_in pieces
words_in (Name text ∷ pieces) = words.Name text ∷ words_in pieces
words_in (Number number ∷ pieces) = words.Number number ∷ words_in pieces

-- a name or a number comes first
abbrev pub begins_run : List Piece → Bool
begins_run (Name text ∷ pieces) = true
begins_run (Number number ∷ pieces) = true
begins_run _ = false

-- names are names, numbers are below 2^128, and no two of them touch
abbrev pub AreReadable : List Piece → Type 0
AreReadable [] = Unit {0}
AreReadable (Space ∷ pieces) = AreReadable pieces
AreReadable (Colon ∷ pieces) = AreReadable pieces
AreReadable (Bar ∷ pieces) = AreReadable pieces
AreReadable (Equals ∷ pieces) = AreReadable pieces
AreReadable (Minus ∷ pieces) = AreReadable pieces
AreReadable (Name text ∷ pieces) = IsName text × (begins_run pieces ≡ false) × AreReadable pieces
AreReadable (Number number ∷ pieces) = (number < 2 ^ 128) × (begins_run pieces ≡ false) × AreReadable pieces
