-- What `make` promises of its answers, by the words, the files before and after, the bytes written and the status.
-- The promises are this project's own. Each speaks of a shelf that tells its files and, but for `ReadsBack`, is honest;
-- where it speaks of what was written, of a sink that tells its bytes. A budget that it asks to be at most 1,000,000 is
-- one that the command line takes.
use Rattle.std.specs.Prelude.{ℕ, ◌≡◌, ◌≢◌, ◌≤◌, ◌<◌, ◌+◌, ◌^◌, ◌⊎◌, ◌++◌, IsTrue, List, [], length, Option, Some, slice_get}
use Rattle.io_base.specs.Causes.{Rose}
use Rattle.io_base.specs.Shelf.{ShelfState, IsTold}
use Rattle.io_base.specs.Sink.{SinkState}
use Rattle.mcu_jumps.specs.Position.{Position}
use Rattle.bpnf.specs.Image.{Image}
use Rattle.bpnf.specs.Canonical.{image_text}
use Rattle.clause_base.specs.Refutation.{Refutes}
use Rattle.clause_base.specs.Spent.{Spent}
use Rattle.clause_base.specs.declared.line.Line.{Line}
use Rattle.clause_base.specs.declared.clash.Clash.{Clash}
use Rattle.field_decl.specs.LayoutText.{layout_text}
use Rattle.flow_graph.specs.Graph.{Graph}
use Rattle.bus_script.specs.Script.{BusScript}
use Rattle.bus_script.specs.ScriptFits.{IsScriptFor}
use Rattle.flow_sim.specs.Flow.{flow_trace}
use Rattle.place_model.specs.Legal.{IsLegal}
use Rattle.place_model.specs.MapText.{IsMapText}
use Rattle.prom_split.specs.Microword.{AreWords}
use Rattle.prom_split.specs.Images.{AreImages, image_count}
use Rattle.bus_bench.specs.Chip.{chip_text, chip_trace}
use Rattle.bus_bench.specs.Matches.{Matches}
use Rattle.placement_clauses.specs.Clauses.{clauses_of}
use Rattle.clause_encode.specs.PlacementList.{list_of}
use Rattle.placer.specs.Placing.{HasNoPlacement}
use Rattle.ref_text.specs.Text.{refutation_text, part_text}
use Rattle.refute_check.specs.Check.{check}
use Rattle.refute_check.specs.declared.checked.Checked.TheVariants as checked
use Rattle.saved_files.specs.FileNames.{map_name, layout_name, image_name, refutation_name, undecided_name}
use Rattle.micro_cli.specs.Telling.{refuted_line, undecided_line}
use Rattle.bench_answers.specs.ReadingBack.{placed_line}
use Rattle.replies.specs.declared.status.Status.{Status}
use Rattle.replies.specs.declared.status.Status.TheVariants as status
use Rattle.micro_cli.specs.declared.command_words.TheConstants.{CONFLICT_LIMIT}
use Rattle.micro_cli.specs.Command.{Command, make}
use Rattle.micro_cli.specs.Accepted.{IsAccepted}
use Rattle.micro_cli.specs.After.{AfterReply}
use Rattle.micro_cli.specs.Checking.{CheckReply}

-- just this text was written
abbrev pub Writes : SinkState → SinkState → List ℕ → Type 0
Writes before after text = after.bytes ≡ before.bytes ++ text

-- ---- images

-- a legal placement is saved: its map, its layout, and each PROM image of its words
pub record SavesPlacement (out : List ℕ) (g : Graph) (place : List Position) (words : List ℕ) (files : List ℕ → Option (List ℕ))
    : Type 0 where
  pub legal : IsLegal g place
  pub map_bytes : List ℕ
  pub map_is : IsMapText g place map_bytes
  pub map_saved : files (map_name out) ≡ Some map_bytes
  pub layout_saved : files (layout_name out) ≡ Some (layout_text g.decl)
  pub words_are : AreWords g place words
  pub images : List Image
  pub images_are : AreImages g.decl words images
  pub images_saved : (number : ℕ) (image : Image) → slice_get images number ≡ Some image
      → files (image_name out number) ≡ Some (image_text image)

-- the words on the bench give the trace of the symbolic flow, for every script of the array and every number of clocks
abbrev pub FollowsFlow : Graph → List Position → List ℕ → Type 0
FollowsFlow g place words =
    (other : BusScript) (n : ℕ) → IsScriptFor g.decl.slices other → Matches place (chip_trace words g.decl other n) (flow_trace g other n)

-- none of the names of a placement's files, of which so many are images
pub record IsNoFileName (out : List ℕ) (count : ℕ) (name : List ℕ) : Type 0 where
  pub no_map : name ≢ map_name out
  pub no_layout : name ≢ layout_name out
  pub no_image : (number : ℕ) → number < count → name ≢ image_name out number

-- the placement of an accepted source is saved, runs, and follows its flow; no other file changes
pub record IsMade (src script out : List ℕ) (clocks : ℕ) (old new : ShelfState) (before after : SinkState) : Type 0 where
  pub g : Graph
  pub bytes : List ℕ
  pub said : BusScript
  pub accepted : IsAccepted src script old.file g bytes said
  pub place : List Position
  pub words : List ℕ
  pub saved : SavesPlacement out g place words new.file
  pub others : (name : List ℕ) → IsNoFileName out (image_count g.decl) name → new.file name ≡ old.file name
  pub written : Writes before after (placed_line ++ chip_text words g.decl said clocks)
  pub follows : FollowsFlow g place words

-- `placed` comes only with images that are saved, read back, and follow the flow
abbrev pub SavesImages : Option Command → ShelfState → ShelfState → SinkState → SinkState → Status → Type 0
SavesImages (Some (make src script out clocks conflicts)) old new before after s =
    IsTold old → IsTrue before.tells → s ≡ status.Done → IsMade src script out clocks old new before after
SavesImages _ old new before after s = Unit {0}

-- ---- what was read back

-- a reply with this status comes only where the run of what stands on the shelf gives it
abbrev pub RepliesAs : List ℕ → List ℕ → List ℕ → ℕ → ShelfState → SinkState → SinkState → List ℕ → Status → Type 0
RepliesAs out script bytes clocks new before after front s =
    (text : List ℕ) × AfterReply new.file out script bytes clocks s text × Writes before after (front ++ text)

-- Where source and script are accepted, the statuses of a placement and of a refused input come only where the run of
-- the files at exit gives them, also over a shelf that is not honest.
abbrev pub ReadsBack : Option Command → ShelfState → ShelfState → SinkState → SinkState → Status → Type 0
ReadsBack (Some (make src script out clocks conflicts)) old new before after s =
    (g : Graph) (bytes : List ℕ) (said : BusScript) → IsTrue old.tells → IsTrue before.tells
    → IsAccepted src script old.file g bytes said →
    (s ≡ status.Done → RepliesAs out script bytes clocks new before after placed_line status.Done)
    × (s ≡ status.Input → RepliesAs out script bytes clocks new before after [] status.Input)
ReadsBack _ old new before after s = Unit {0}

-- ---- refutations

-- a refutation of an accepted source is saved and told, the checker accepts it, and no placement is legal; within the
-- budgets of the command line it has fewer than 2^39 bytes
pub record IsRefuted (src script out : List ℕ) (conflicts : ℕ) (old new : ShelfState) (before after : SinkState) : Type 0 where
  pub g : Graph
  pub bytes : List ℕ
  pub said : BusScript
  pub accepted : IsAccepted src script old.file g bytes said
  pub lines : List Line
  pub refutes : Refutes (list_of g) lines
  pub few : length lines ≤ conflicts + 1
  pub saved : new.file (refutation_name out) ≡ Some (refutation_text (length (clauses_of g)) lines)
  pub others : (name : List ℕ) → name ≢ refutation_name out → new.file name ≡ old.file name
  pub written : Writes before after (refuted_line (length lines))
  pub checked_by : check (list_of g) (refutation_text (length (clauses_of g)) lines) ≡ checked.Refutes (length lines)
  pub numbered : length (clauses_of g) + length lines < 2 ^ 32
  pub short : conflicts ≤ CONFLICT_LIMIT → length (refutation_text (length (clauses_of g)) lines) < 2 ^ 39
  pub none_legal : HasNoPlacement g

-- `refuted` comes only with a refutation
abbrev pub SavesRefutation : Option Command → ShelfState → ShelfState → SinkState → SinkState → Status → Type 0
SavesRefutation (Some (make src script out clocks conflicts)) old new before after s =
    IsTold old → IsTrue before.tells → s ≡ status.Refuted → IsRefuted src script out conflicts old new before after
SavesRefutation _ old new before after s = Unit {0}

-- Over the files as `make` leaves them, where the source has another name than the saved refutation, `check` of the two
-- ends with status 0, `Done`, unless memory is refused or a fault is counted
abbrev pub ChecksOut : Option Command → ShelfState → ShelfState → SinkState → SinkState → Status → Type 0
ChecksOut (Some (make src script out clocks conflicts)) old new before after s =
    (start end : ShelfState) (t : Status) (text : List ℕ) → IsTold old → IsTrue before.tells → s ≡ status.Refuted →
    conflicts ≤ CONFLICT_LIMIT → src ≢ refutation_name out → IsTrue start.tells → start.file ≡ new.file →
    CheckReply src (refutation_name out) start end t text → (t ≡ status.Done) ⊎ Rose start.faults end.faults
ChecksOut _ old new before after s = Unit {0}

-- ---- spent budgets

-- the budget was spent on an accepted source, on lines of which each is new, and that is saved and told
pub record IsUndecided (src script out : List ℕ) (conflicts : ℕ) (old new : ShelfState) (before after : SinkState) : Type 0 where
  pub g : Graph
  pub bytes : List ℕ
  pub said : BusScript
  pub accepted : IsAccepted src script old.file g bytes said
  pub lines : List Line
  pub clash : Clash
  pub spent : Spent (list_of g) lines clash conflicts
  pub saved : new.file (undecided_name out) ≡ Some (part_text (length (clauses_of g)) lines clash)
  pub others : (name : List ℕ) → name ≢ undecided_name out → new.file name ≡ old.file name
  pub written : Writes before after (undecided_line conflicts)

-- `undecided` comes only after the whole budget
abbrev pub SpendsBudget : Option Command → ShelfState → ShelfState → SinkState → SinkState → Status → Type 0
SpendsBudget (Some (make src script out clocks conflicts)) old new before after s =
    IsTold old → IsTrue before.tells → s ≡ status.Undecided → IsUndecided src script out conflicts old new before after
SpendsBudget _ old new before after s = Unit {0}

-- ---- every accepted source

-- neither the shelf nor the sink counted a fault
pub record NoFaultCounted (old new : ShelfState) (before after : SinkState) : Type 0 where
  pub shelf : Rose old.faults new.faults → ⊥
  pub sink : Rose before.faults after.faults → ⊥

-- it is placed, refuted or undecided, or memory was refused
abbrev pub IsDecision : Status → Type 0
IsDecision s = (s ≡ status.Done) ⊎ (s ≡ status.Refuted) ⊎ (s ≡ status.Undecided) ⊎ (s ≡ status.NoMemory)

-- every accepted source comes to one of these, where no call failed
abbrev pub Decides : Option Command → ShelfState → ShelfState → SinkState → SinkState → Status → Type 0
Decides (Some (make src script out clocks conflicts)) old new before after s =
    (g : Graph) (bytes : List ℕ) (said : BusScript) → IsTold old → IsTrue before.tells → IsAccepted src script old.file g bytes said →
    NoFaultCounted old new before after → IsDecision s
Decides _ old new before after s = Unit {0}

-- Over a shelf that is honest too, an accepted source is never refused, whatever was counted: not for its inputs, and
-- not for what was just saved.
abbrev pub NeverRefuses : Option Command → ShelfState → Status → Type 0
NeverRefuses (Some (make src script out clocks conflicts)) old s =
    (g : Graph) (bytes : List ℕ) (said : BusScript) → IsTold old → IsAccepted src script old.file g bytes said → s ≢ status.Input
NeverRefuses _ old s = Unit {0}

-- ---- what stays

-- words that are no command, and inputs that are refused, change no file
abbrev pub ChangesNothing : ShelfState → ShelfState → Status → Type 0
ChangesNothing old new s = IsTold old → (s ≡ status.Words) ⊎ (s ≡ status.Input) → new.file ≡ old.file
