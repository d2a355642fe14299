-- The first target that is a label.
use Rattle.std.specs.Prelude.{ℕ, ◌+◌, List, [], ◌∷◌, Option, Some, None}

-- the first outcome whose target is a label
abbrev pub first_real : List (Option ℕ) → ℕ
first_real [] = 0
first_real (Some label ∷ targets) = 0
first_real (None ∷ targets) = first_real targets + 1

-- the first target that is a label
abbrev pub first_label : List (Option ℕ) → ℕ
first_label [] = 0
first_label (Some label ∷ targets) = label
first_label (None ∷ targets) = first_label targets
