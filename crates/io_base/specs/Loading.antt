-- What loading a whole file gives. This project's own choice.
use Rattle.std.specs.Prelude.{ℕ, ◌≡◌, ◌-◌, ◌≤◌, ◌<◌, ◌⊎◌, List, length, Option, None, Some}
use Rattle.io_base.specs.declared.loading.LoadFault.{LoadFault}
use Rattle.io_base.specs.declared.loading.LoadFault.TheVariants as fault
use Rattle.io_base.specs.Causes.{end_of_count}
use Rattle.io_base.specs.Shelf.{ShelfState}

-- More bytes than the limit were taken. A count that stands at its end tells nothing.
abbrev pub TookMore : ShelfState → ShelfState → ℕ → Type 0
TookMore old new limit = (limit < new.taken - old.taken) ⊎ (end_of_count ≤ new.taken)

-- what a shelf that tells its files says of a file that was loaded
pub record IsWhole (file : Option (List ℕ)) (limit : ℕ) (bytes : List ℕ) : Type 0 where
  pub whole : file ≡ Some bytes
  pub fits : length bytes ≤ limit

-- what a shelf that tells its files says of a file that was not loaded
abbrev pub ExplainsFault : Option (List ℕ) → ℕ → LoadFault → Type 0
ExplainsFault None limit fault.TooLong = ⊥
ExplainsFault (Some bytes) limit fault.TooLong = limit < length bytes
ExplainsFault None limit fault.NoFile = Unit {0}
ExplainsFault (Some bytes) limit fault.NoFile = ⊥
ExplainsFault file limit fault.Failed = Unit {0}
ExplainsFault file limit fault.OutOfMemory = Unit {0}
