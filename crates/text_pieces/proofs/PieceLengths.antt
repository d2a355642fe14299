-- How long lines of pieces and texts of lines are.
use Rattle.std.proofs.Common.{◌≡◌, ℕ, suc, ◌+◌, ◌*◌, ◌≤◌, List, [], ◌∷◌, ◌++◌, length, arith}
use Rattle.std.specs.Prelude.{decimal}
use Rattle.std.specs.List.{AllByRecursion}
use Rattle.std.proofs.lemmas.List.{length-append}
use Rattle.std.proofs.lemmas.Fmt.{length-decimal-le_wide}
use Rattle.text_pieces.specs.Pieces.{Piece, Space, Colon, Bar, Equals, Minus, Name, Number, pieces_text, AreReadable}
use Rattle.text_pieces.specs.PieceLines.{lines_text}

-- a piece that can be read has at most 39 bytes
pub pieces_short : (all : List Piece) → AreReadable all → length (pieces_text all) ≤ 39 * length all
pieces_short [] h = omega arith
pieces_short (Space ∷ rest) h = let more = pieces_short rest h in omega (arith, more)
pieces_short (Colon ∷ rest) h = let more = pieces_short rest h in omega (arith, more)
pieces_short (Bar ∷ rest) h = let more = pieces_short rest h in omega (arith, more)
pieces_short (Equals ∷ rest) h = let more = pieces_short rest h in omega (arith, more)
pieces_short (Minus ∷ rest) h = let more = pieces_short rest h in omega (arith, more)
pieces_short (Name text ∷ rest) h = let more = pieces_short rest h.2 in
    omega (arith, more, h.0.short, length-append text (pieces_text rest))
pieces_short (Number number ∷ rest) h =
    let more = pieces_short rest h.2 in
    let digits : length (decimal number) ≤ 39 =
    length-decimal-le_wide 39 number (omega arith) (omega (arith, h.0)) (omega (arith, h.0)) in
    omega (arith, more, digits, length-append (decimal number) (pieces_text rest))

-- a line of at most so many pieces that can be read
pub record IsShortLine (most : ℕ) (line : List Piece) : Type 0 where
  pub few : length line ≤ most
  pub readable : AreReadable line

-- a text of such lines has at most 39 bytes for each piece, and one for each line
pub lines_short : (most : ℕ) (all : List (List Piece)) → AllByRecursion (IsShortLine most) all
    → length (lines_text all) ≤ (39 * most + 1) * length all
lines_short most [] h = omega arith
lines_short most (line ∷ rest) h =
    let more = lines_short most rest h.1 in
    let here = pieces_short line h.0.readable in
    let few : length line ≤ most = h.0.few in
    let whole : length (lines_text (line ∷ rest)) ≡ length (pieces_text line) + 1 + length (lines_text rest) =
    omega (arith, length-append (pieces_text line ++ 10 ∷ []) (lines_text rest), length-append (pieces_text line) (10 ∷ [])) in
    grown most (length (pieces_text line)) (length line) (length (lines_text rest)) (length rest) (length (lines_text (line ∷ rest)))
    here few more whole
  where
    grown : (most bytes pieces text lines all : ℕ) → bytes ≤ 39 * pieces → pieces ≤ most → text ≤ (39 * most + 1) * lines
        → all ≡ bytes + 1 + text → all ≤ (39 * most + 1) * suc lines
    grown most bytes pieces text lines all here few more whole = grind (arith, here, few, more, whole)
