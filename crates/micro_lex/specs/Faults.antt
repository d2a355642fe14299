-- The faults that a line can have (this project's own choice), and how a function reports one.
use Rattle.std.specs.Prelude.{◌≡◌, ℕ, Result, Ok, Err}
use Rattle.micro_lex.specs.declared.fault.LexFault.{LexFault}
use Rattle.micro_lex.specs.declared.fault.LexFault.TheVariants as faults

-- what is wrong with a byte or with a run
pub data Cause : Type 0 where
  BadByte : Cause
  BadNumber : Cause
  NumberTooWide : Cause
  NameTooLong : Cause

-- a faulty place: its cause, and its column from 1, which is that of the byte or of the run's first byte
pub record Fault : Type 0 where
  pub cause : Cause
  pub column : ℕ

-- what was found, or the fault in this column
abbrev pub in_column : {A : Type 0} → ℕ → Result A Cause → Result A Fault
in_column column (Ok found) = Ok found
in_column column (Err cause) = Err (record { cause = cause; column = column })

-- a function reports the fault that its text has; want of memory says nothing of the text
abbrev pub Reports : {A : Type 0} → LexFault → Result A Fault → Type 0
Reports faults.OutOfMemory meant = Unit {0}
Reports (faults.BadByte column) meant = meant ≡ Err (record { cause = BadByte; column = column })
Reports (faults.BadNumber column) meant = meant ≡ Err (record { cause = BadNumber; column = column })
Reports (faults.NumberTooWide column) meant = meant ≡ Err (record { cause = NumberTooWide; column = column })
Reports (faults.NameTooLong column) meant = meant ≡ Err (record { cause = NameTooLong; column = column })

-- a function gives just what is meant, value or fault, unless it wants memory
abbrev pub Gives : {X A : Type 0} → (X → A) → Result X LexFault → Result A Fault → Type 0
Gives seen (Ok found) meant = meant ≡ Ok (seen found)
Gives seen (Err fault) meant = Reports fault meant
