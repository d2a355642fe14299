-- The targets of a flow statement: labels, and the trap (this project's own choice).
use Rattle.std.specs.Prelude.{ℕ, ◌≡◌, ◌<◌, List, Option, Some, IsTrue, is_some, slice_get}
use Rattle.std.specs.List.{list_any}

-- at least one target is a label
abbrev pub HasLabel : List (Option ℕ) → Type 0
HasLabel targets = IsTrue (list_any is_some targets)

-- each target is the trap or a label below this number
abbrev pub AreTargets : ℕ → List (Option ℕ) → Type 0
AreTargets count targets = (outcome label : ℕ) → slice_get targets outcome ≡ Some (Some label) → label < count
