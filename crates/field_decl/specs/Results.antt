-- What a function gives, against what its line or its text means, over the kinds of refusal of any language.
use Rattle.std.specs.Prelude.{◌≡◌, ℕ, Option, None, Some, Result, Ok, Err}
use Rattle.field_decl.specs.declared.refusal.LineRefusal.{LineRefusal}
use Rattle.field_decl.specs.declared.refusal.LineRefusal.TheVariants as line_faults
use Rattle.field_decl.specs.declared.refusal.Refusal.{Refusal}
use Rattle.field_decl.specs.declared.refusal.Refusal.TheVariants as faults

infixl 10 ◌>>=◌
-- the next reading of what was read, unless that is refused
abbrev pub ◌>>=◌ : {A B E : Type 0} → Result A E → (A → Result B E) → Result B E
(Ok read) >>= next = next read
(Err kind) >>= next = Err kind

-- what was read, unless it is refused
abbrev pub unless_refused : {A K : Type 0} → Option K → A → Result A K
unless_refused None read = Ok read
unless_refused (Some kind) read = Err kind

-- a refusal of a line, with the line's number
abbrev pub in_line : {A K : Type 0} → ℕ → Result A K → Result A (ℕ × K)
in_line line (Ok read) = Ok read
in_line line (Err kind) = Err (line, kind)

-- a function refuses a line just as it is to be refused; want of memory says nothing of the line
abbrev pub Refuses : {A K : Type 0} → LineRefusal K → Result A K → Type 0
Refuses line_faults.OutOfMemory meant = Unit {0}
Refuses (line_faults.Kind kind) meant = meant ≡ Err kind

-- a function gives just what a line means, unless it wants memory
abbrev pub Gives : {X A K : Type 0} → (X → A) → Result X (LineRefusal K) → Result A K → Type 0
Gives seen (Ok read) meant = meant ≡ Ok (seen read)
Gives seen (Err fault) meant = Refuses fault meant

-- a function refuses a text at just the line and for just the reason that it is to be refused
abbrev pub RefusesAt : {A K : Type 0} → Refusal K → Result A (ℕ × K) → Type 0
RefusesAt faults.OutOfMemory meant = Unit {0}
RefusesAt (faults.At line kind) meant = meant ≡ Err (line, kind)

-- a function gives just what a text means, unless it wants memory
abbrev pub GivesText : {X A K : Type 0} → (X → A) → Result X (Refusal K) → Result A (ℕ × K) → Type 0
GivesText seen (Ok read) meant = meant ≡ Ok (seen read)
GivesText seen (Err fault) meant = RefusesAt fault meant

-- a function gives or refuses just what is meant
abbrev pub GivesKind : {X A K : Type 0} → (X → A) → Result X K → Result A K → Type 0
GivesKind seen (Ok read) meant = meant ≡ Ok (seen read)
GivesKind seen (Err kind) meant = meant ≡ Err kind

-- a fault of a line, with the line's number
abbrev pub fault_at : {K : Type 0} → ℕ → LineRefusal K → Refusal K
fault_at line (line_faults.Kind kind) = faults.At line kind
fault_at line line_faults.OutOfMemory = faults.OutOfMemory
