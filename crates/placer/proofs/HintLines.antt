-- The lines that a search has learned, put together from their hints and the clauses of the board.

use Rattle.std.proofs.Common.{◌≡◌, ℕ, ◌-◌, ◌<◌, ◌≤◌, ℤ, List, [], ◌∷◌, ◌++◌, length, drop, get_or, map, refl, ap, ◌∙◌, arith}
use Rattle.std.proofs.Math.Seq.{drop-append_seam}
use Rattle.std.proofs.lemmas.List.{length-append, length-map}
use Rattle.clause_base.specs.Clauses.{Clauses}
use Rattle.clause_base.specs.Refutation.{clause_of}
use Rattle.clause_base.specs.declared.line.Line.{Line}
use Rattle.propagate.specs.Standing.{Standing}
use Rattle.placer.specs.Progress.{HasHints, hints_of, paired, lines_of}

-- a line of a clause and hints
abbrev pub line_of : List ℤ → List ℕ → Line
line_of clause hints = record { clause = clause; hints = hints }

-- hints more and the clause of their number are one line more
pub paired_push : (hints : List (List ℕ)) (clauses : List (List ℤ)) (h : List ℕ) (c : List ℤ) → length hints < length clauses
    → get_or clauses (length hints) c ≡ c → paired (hints ++ h ∷ []) clauses ≡ paired hints clauses ++ line_of c h ∷ []
paired_push [] [] h c lt is = absurd (omega arith)
paired_push [] (x ∷ clauses) h c lt is = ap (λ (y : List ℤ). line_of y h ∷ []) is
paired_push (g ∷ hints) [] h c lt is = absurd (omega arith)
paired_push (g ∷ hints) (x ∷ clauses) h c lt is =
    ap (λ (ls : List Line). line_of x g ∷ ls) (paired_push hints clauses h c (omega arith) is)

-- lines are those of their hints and clauses
paired_lines : (lines : List Line) → paired (map hints_of lines) (map clause_of lines) ≡ lines
paired_lines [] = refl
paired_lines (line ∷ lines) = ap (λ (ls : List Line). line ∷ ls) (paired_lines lines)

-- behind the clauses of a list the lines are found
lines_of_behind : (front : List (List ℤ)) (lines : List Line) → lines_of (map hints_of lines) (front ++ map clause_of lines) ≡ lines
lines_of_behind front lines =
    let count : length (front ++ map clause_of lines) - length (map hints_of lines) ≡ length front =
    omega (arith, length-append front (map clause_of lines), length-map lines clause_of, length-map lines hints_of) in
    ap (λ (n : ℕ). paired (map hints_of lines) (drop n (front ++ map clause_of lines))) count
    ∙ ap (λ (cs : List (List ℤ)). paired (map hints_of lines) cs) (drop-append_seam front (map clause_of lines))
    ∙ paired_lines lines

-- the lines of the board
pub lines_of_board : (list : Clauses) (b : Standing) (hints : List (List ℕ)) (k : HasHints list b hints)
    → lines_of hints b.list.clauses ≡ k.lines
lines_of_board list b hints k =
    ap (λ (hs : List (List ℕ)). lines_of hs b.list.clauses) k.told
    ∙ ap (λ (x : Clauses). lines_of (map hints_of k.lines) x.clauses) k.learned.same
    ∙ lines_of_behind list.clauses k.lines

-- there are as many lines as hints
pub length_hints : (list : Clauses) (b : Standing) (hints : List (List ℕ)) (k : HasHints list b hints) → length hints ≡ length k.lines
length_hints list b hints k = ap length k.told ∙ length-map k.lines hints_of

-- and no more than clauses
pub length_hints_le : (list : Clauses) (b : Standing) (hints : List (List ℕ)) → HasHints list b hints
    → length hints ≤ length b.list.clauses
length_hints_le list b hints k =
    omega (
      arith,
      ap (λ (x : Clauses). length x.clauses) k.learned.same,
      length-append list.clauses (map clause_of k.lines),
      length-map k.lines clause_of,
      length_hints list b hints k,
    )
