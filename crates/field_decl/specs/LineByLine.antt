-- A text read line by line, over what its lines say and any kinds of refusal: each line judged after all lines before it,
-- or in steps, each line taken into a state.
use Rattle.std.specs.Prelude.{ℕ, ◌+◌, List, [], ◌∷◌, ◌++◌, length, Result, Ok}
use Rattle.field_decl.specs.Results.{◌>>=◌, in_line}

-- what these and the further lines say, each read after all lines before it, or the first line that is refused, by its
-- number
unfoldable pub lines_read : {L K : Type 0} → (List L → List ℕ → Result L K) → List L → List (List ℕ) → Result (List L) (ℕ × K)
lines_read read earlier [] = Ok earlier
lines_read read earlier (line ∷ rest) =
    in_line (length earlier + 1) (read earlier line) >>= λ said. lines_read read (earlier ++ said ∷ []) rest

-- the state after these lines, of which the first has this number, or the first line that is refused, by its number
unfoldable pub lines_taken : {S K : Type 0} → (S → ℕ → List ℕ → Result S K) → S → ℕ → List (List ℕ) → Result S (ℕ × K)
lines_taken take state number [] = Ok state
lines_taken take state number (line ∷ rest) = in_line number (take state number line) >>= λ more. lines_taken take more (number + 1) rest
