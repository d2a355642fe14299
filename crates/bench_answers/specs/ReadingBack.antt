-- What is replied after saving, by what is read back (this project's own choice).
use Rattle.std.specs.Prelude.{ℕ, ◌≡◌, ◌⊎◌, List, ◌++◌, codes, Ok}
use Rattle.io_base.specs.Causes.{Rose}
use Rattle.io_base.specs.Shelf.{ShelfState}
use Rattle.field_decl.specs.Declaration.{Declaration}
use Rattle.bus_script.specs.Script.{BusScript, script_of}
use Rattle.prom_split.specs.Microword.{HasNoBadShift}
use Rattle.bus_bench.specs.Chip.{chip_text}
use Rattle.prom_files.specs.WordsStep.{HasWords, WordsReply}
use Rattle.replies.specs.Texts.{cannot_read, no_memory}
use Rattle.replies.specs.ScriptStep.{RefusesScript}
use Rattle.replies.specs.declared.status.Status.{Status}
use Rattle.replies.specs.declared.status.Status.TheVariants as status
use Rattle.bench_answers.specs.RunOrder.{RunOrder}
use Rattle.bench_answers.specs.Running.{RefusesShift}

-- the line before the trace
abbrev pub placed_line : List ℕ
placed_line = codes "placed\n"

-- the line `placed`, and the trace of the bench on these words
pub record IsPlacedRun (decl : Declaration) (words : List ℕ) (said : BusScript) (clocks : ℕ) (s : Status) (text : List ℕ) : Type 0 where
  pub status_is : s ≡ status.Done
  pub no_bad_shift : HasNoBadShift words decl
  pub text_is : text ≡ placed_line ++ chip_text words decl said clocks

-- the words are refused for a right shift, or they are run
abbrev pub ShiftOrRun : List ℕ → Declaration → List ℕ → BusScript → ℕ → Status → List ℕ → Type 0
ShiftOrRun out decl words said clocks s text = RefusesShift out decl words s text ⊎ IsPlacedRun decl words said clocks s text

-- what becomes of words that were read back and of the script's bytes, which are read for their declaration
abbrev pub WordsBack : RunOrder → Declaration → List ℕ → Status → List ℕ → Type 0
WordsBack order decl words s text =
    RefusesScript order.script decl.slices order.bytes s text
    ⊎ ((said : BusScript) × (script_of decl.slices order.bytes ≡ Ok said)
    × ShiftOrRun order.out decl words said order.clocks s text)

-- what is replied after saving, by what is read back
abbrev pub BackReply : RunOrder → ShelfState → ShelfState → Status → List ℕ → Type 0
BackReply order old new s text =
    WordsReply order.out old new s text
    ⊎ ((decl : Declaration) × (words : List ℕ) × HasWords order.out old new decl words × WordsBack order decl words s text)

-- these words were read back, the script's bytes were read for their declaration, and no word orders the right shift
-- with K bits other than 0
pub record MayRun (order : RunOrder) (old new : ShelfState) : Type 0 where
  pub decl : Declaration
  pub words : List ℕ
  pub said : BusScript
  pub had : HasWords order.out old new decl words
  pub meant : script_of decl.slices order.bytes ≡ Ok said
  pub no_bad_shift : HasNoBadShift words decl

-- memory was refused, after the line `placed` only where this holds
pub record Wants (placed : Type 0) (s : Status) (text : List ℕ) : Type 0 where
  pub status_is : s ≡ status.NoMemory
  pub text_is : (text ≡ no_memory) ⊎ (placed × (text ≡ placed_line ++ no_memory))

-- a reply of this kind, or that memory was refused, after the line `placed` only where this holds
abbrev pub OrWants : Type 0 → (Status → List ℕ → Type 0) → Status → List ℕ → Type 0
OrWants placed replies s text = replies s text ⊎ Wants placed s text

-- a read failed, and its file is told
pub record CannotReadBack (old new : ShelfState) (s : Status) (text : List ℕ) : Type 0 where
  pub status_is : s ≡ status.ShelfFault
  pub rose : Rose old.faults new.faults
  pub text_is : text ≡ cannot_read new.last_failed
