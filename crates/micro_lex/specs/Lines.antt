-- The lines of a text. What ends a line is this project's own choice.
use Rattle.std.specs.Prelude.{ℕ, Bool, not, ◌==◌, if◌then◌else◌, List, [], ◌∷◌, map}

-- a byte before the first piece
abbrev pub onto_first : ℕ → List (List ℕ) → List (List ℕ)
onto_first b [] = (b ∷ []) ∷ []
onto_first b (piece ∷ pieces) = (b ∷ piece) ∷ pieces

-- the text cut at each LF; a last piece without LF counts where it is not empty
abbrev pub pieces : List ℕ → List (List ℕ)
pieces [] = []
pieces (b ∷ bs) = if b == 10 then [] ∷ pieces bs else onto_first b (pieces bs)

-- a piece without one CR at its end
abbrev pub without_cr : List ℕ → List ℕ
without_cr [] = []
without_cr (b ∷ []) = if b == 13 then [] else b ∷ []
without_cr (b ∷ c ∷ bs) = b ∷ without_cr (c ∷ bs)

-- the lines of a text: its pieces, each without one CR at its end
abbrev pub lines : List ℕ → List (List ℕ)
lines bytes = map without_cr (pieces bytes)

-- any byte but LF
abbrev pub is_not_lf : ℕ → Bool
is_not_lf b = not (b == 10)
