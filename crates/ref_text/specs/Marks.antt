-- Marks of the variables that a line's literals have met.

use Rattle.std.specs.Prelude.{ℕ, ◌≡◌, ◌==◌, Bool, false, List, slice_index_or}
use Rattle.std.specs.List.{list_any}
use Rattle.ref_text.specs.declared.words.Signed.{Signed}

-- no variable is marked
abbrev pub AreClear : List Bool → Type 0
AreClear marks = (v : ℕ) → slice_index_or marks v false ≡ false

-- a variable is among those of these literals
abbrev pub are_met : List Signed → ℕ → Bool
are_met literals v = list_any (λ literal. literal.size == v) literals
