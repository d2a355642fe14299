-- What `run` replies: the trace of saved images on the bench (this project's own choice).
use Rattle.std.specs.Prelude.{ℕ, ◌≡◌, ◌⊎◌, List, ◌++◌, codes}
use Rattle.io_base.specs.Shelf.{ShelfState}
use Rattle.mcu_jumps.specs.Position.{Position}
use Rattle.field_decl.specs.Declaration.{Declaration}
use Rattle.place_model.specs.MapText.{cell_text}
use Rattle.bus_script.specs.Script.{BusScript}
use Rattle.prom_split.specs.Microword.{HasNoBadShift}
use Rattle.prom_files.specs.WordsStep.{HasWords, WordsReply}
use Rattle.bus_bench.specs.BadShift.{IsFirstBadShift}
use Rattle.bus_bench.specs.Chip.{chip_text}
use Rattle.replies.specs.Texts.{Refuses}
use Rattle.replies.specs.ScriptStep.{HasScript, ScriptReply}
use Rattle.replies.specs.declared.status.Status.{Status}
use Rattle.replies.specs.declared.status.Status.TheVariants as status

-- a cell whose word orders the right shift with K bits other than 0
abbrev pub shift_reason : Position → List ℕ
shift_reason cell = codes "cell " ++ cell_text cell ++ codes " ShiftMask"

-- the first such cell is told, by the name of the output
pub record RefusesShift (out : List ℕ) (decl : Declaration) (words : List ℕ) (s : Status) (text : List ℕ) : Type 0 where
  pub cell : Position
  pub first : IsFirstBadShift words decl cell
  pub reply : Refuses out (shift_reason cell) s text

-- the trace of the bench on these words under a script
pub record IsRun (decl : Declaration) (words : List ℕ) (said : BusScript) (clocks : ℕ) (s : Status) (text : List ℕ) : Type 0 where
  pub status_is : s ≡ status.Done
  pub no_bad_shift : HasNoBadShift words decl
  pub text_is : text ≡ chip_text words decl said clocks

-- what the bench replies to words and a script
abbrev pub BenchReply : List ℕ → Declaration → List ℕ → BusScript → ℕ → Status → List ℕ → Type 0
BenchReply out decl words said clocks s text = RefusesShift out decl words s text ⊎ IsRun decl words said clocks s text

-- the output has these words, and the script says this for their array
pub record HasBench (out script : List ℕ) (old new : ShelfState) (decl : Declaration) (words : List ℕ) (said : BusScript) : Type 0 where
  pub mid : ShelfState
  pub had : HasWords out old mid decl words
  pub read : HasScript script decl.slices mid new said

-- the output has words, and the script is not had
pub record LacksBenchScript (out script : List ℕ) (old new : ShelfState) (s : Status) (text : List ℕ) : Type 0 where
  pub decl : Declaration
  pub words : List ℕ
  pub mid : ShelfState
  pub had : HasWords out old mid decl words
  pub reply : ScriptReply script decl.slices mid new s text

-- the reply where words or script are not had
abbrev pub BenchInputsReply : List ℕ → List ℕ → ShelfState → ShelfState → Status → List ℕ → Type 0
BenchInputsReply out script old new s text = WordsReply out old new s text ⊎ LacksBenchScript out script old new s text

-- the reply of `run OUT SCRIPT clocks=N`
abbrev pub RunReply : List ℕ → List ℕ → ℕ → ShelfState → ShelfState → Status → List ℕ → Type 0
RunReply out script clocks old new s text =
    BenchInputsReply out script old new s text
    ⊎ ((decl : Declaration) × (words : List ℕ) × (said : BusScript) × HasBench out script old new decl words said
    × BenchReply out decl words said clocks s text)
