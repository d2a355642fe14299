-- How what the parts of an answer reply is what the whole replies.
use Rattle.std.proofs.Common.{ℕ, ◌≡◌, ◌⊎◌, inl, inr, List, ◌++◌, length, Some, refl, sym, ap, ◌∙◌, subst, slice_get}
use Rattle.std.proofs.lemmas.Option.{slice_get_within}
use Rattle.io_base.specs.Causes.{Rose}
use Rattle.io_base.specs.Shelf.{ShelfState, GoesOn, CountsNoRead, CountsNoChange}
use Rattle.io_base.specs.Sink.{SinkState, SinkGoesOn, Adds, AddsPrefix}
use Rattle.mcu_jumps.specs.Position.{Position}
use Rattle.field_decl.specs.Declaration.{Declaration}
use Rattle.flow_graph.specs.Graph.{Graph}
use Rattle.bus_script.specs.Script.{BusScript}
use Rattle.prom_split.specs.Microword.{HasNoBadShift}
use Rattle.bus_bench.specs.BadShift.{IsFirstBadShift}
use Rattle.bus_bench.specs.Chip.{chip_text}
use Rattle.saved_files.specs.SavedFile.{SavedFile}
use Rattle.saved_files.specs.Saving.{IsSaved, FailedAt, KeepsAllBut, TakesOneEach, TakesOneUpTo}
use Rattle.saved_files.specs.Unsaved.{cannot_save}
use Rattle.replies.specs.Texts.{Refuses, no_memory}
use Rattle.replies.specs.Ending.{Says, Ends, OrNoMemory, StopsBy, SaysStop}
use Rattle.replies.specs.declared.status.Status.{Status}
use Rattle.replies.specs.declared.status.Status.TheVariants as status
use Rattle.replies.specs.declared.reply.Stop.{Stop}
use Rattle.replies.proofs.Stopping.{StopsBy-map, Ends-map, says_ends, said_stop}
use Rattle.bench_answers.specs.RunOrder.{RunOrder}
use Rattle.bench_answers.specs.PlacedFiles.{PlacesFiles}
use Rattle.bench_answers.specs.Running.{shift_reason, RefusesShift, IsRun}
use Rattle.bench_answers.specs.ReadingBack.{placed_line, IsPlacedRun, BackReply, MayRun, OrWants}
use Rattle.bench_answers.specs.Placed.{FilesAnswer, UnlessUnsaved, PlacedAnswer}
use Rattle.bench_answers.proofs.Streaming.{front_of_both, ends_after}

-- ---- the trace

-- a run of these words
is_run : (decl : Declaration) (words : List ℕ) (said : BusScript) (clocks : ℕ) → HasNoBadShift words decl
    → IsRun decl words said clocks status.Done (chip_text words decl said clocks)
is_run decl words said clocks unmasked = record { status_is = refl; no_bad_shift = unmasked; text_is = refl }

pub trace_done : (decl : Declaration) (words : List ℕ) (said : BusScript) (clocks : ℕ) (old new : SinkState) → HasNoBadShift words decl
    → Adds old new (chip_text words decl said clocks)
    → Ends (OrNoMemory (IsRun decl words said clocks)) old new status.Done
trace_done decl words said clocks old new unmasked adds =
    inl (chip_text words decl said clocks, inl (is_run decl words said clocks unmasked), adds)

pub trace_failed : (decl : Declaration) (words : List ℕ) (said : BusScript) (clocks : ℕ) (old new : SinkState) → HasNoBadShift words decl
    → Rose old.faults new.faults → AddsPrefix old new (chip_text words decl said clocks)
    → Ends (OrNoMemory (IsRun decl words said clocks)) old new status.SinkFault
trace_failed decl words said clocks old new unmasked rose part =
    inr (refl, rose, (status.Done, chip_text words decl said clocks, inl (is_run decl words said clocks unmasked), part))

-- memory was refused before anything was written
pub trace_wants : (answer : Status → List ℕ → Type 0) (old mid new : SinkState) (result : Status) → mid ≡ old
    → Says status.NoMemory no_memory mid new result → Ends (OrNoMemory answer) old new result
trace_wants answer old mid new result same says =
    let P : SinkState → Type 0 = λ start. Ends (OrNoMemory answer) start new result in
    subst P same (says_ends (OrNoMemory answer) status.NoMemory no_memory mid new result (inr (refl, refl)) says)

-- ---- the line `placed`, and the trace

placed_run : (decl : Declaration) (words : List ℕ) (said : BusScript) (clocks : ℕ) → HasNoBadShift words decl
    → (s : Status) (text : List ℕ) → OrNoMemory (IsRun decl words said clocks) s text
    → OrWants (HasNoBadShift words decl) (IsPlacedRun decl words said clocks) s (placed_line ++ text)
placed_run decl words said clocks unmasked s text (inl run) =
    inl (record {
      status_is = run.status_is;
      no_bad_shift = run.no_bad_shift;
      text_is = ap (λ (t : List ℕ). placed_line ++ t) run.text_is;
    })
placed_run decl words said clocks unmasked s text (inr wants) =
    inr (record { status_is = wants.0; text_is = inr (unmasked, ap (λ (t : List ℕ). placed_line ++ t) wants.1) })

pub placed_ends : (decl : Declaration) (words : List ℕ) (said : BusScript) (clocks : ℕ) → HasNoBadShift words decl
    → (old mid new : SinkState) (result : Status) → SinkGoesOn old mid → Adds old mid placed_line
    → Ends (OrNoMemory (IsRun decl words said clocks)) mid new result
    → Ends (OrWants (HasNoBadShift words decl) (IsPlacedRun decl words said clocks)) old new result
placed_ends decl words said clocks unmasked old mid new result =
    ends_after (OrNoMemory (IsRun decl words said clocks)) (OrWants (HasNoBadShift words decl) (IsPlacedRun decl words said clocks))
    placed_line (placed_run decl words said clocks unmasked) old mid new result

pub placed_failed : (decl : Declaration) (words : List ℕ) (said : BusScript) (clocks : ℕ) (old new : SinkState) → HasNoBadShift words decl
    → Rose old.faults new.faults → AddsPrefix old new placed_line
    → Ends (OrWants (HasNoBadShift words decl) (IsPlacedRun decl words said clocks)) old new status.SinkFault
placed_failed decl words said clocks old new unmasked rose part =
    inr (
      refl,
      rose,
      (
        status.Done,
        placed_line ++ chip_text words decl said clocks,
        inl (record { status_is = refl; no_bad_shift = unmasked; text_is = refl }),
        front_of_both old new placed_line (chip_text words decl said clocks) part,
      ),
    )

-- ---- what stops an answer

-- want of memory, told by no line before it
wants_more : (placed : Type 0) (P Q : Status → List ℕ → Type 0) → ((s : Status) (text : List ℕ) → P s text → Q s text)
    → (s : Status) (text : List ℕ) → OrNoMemory P s text → OrWants placed Q s text
wants_more placed P Q is s text (inl reply) = inl (is s text reply)
wants_more placed P Q is s text (inr wants) = inr (record { status_is = wants.0; text_is = inl wants.1 })

pub stop_wants : (placed : Type 0) (P Q : Status → List ℕ → Type 0) → ((s : Status) (text : List ℕ) → P s text → Q s text)
    → (x : Stop) (old new : SinkState) (result : Status) → StopsBy P x → SaysStop x old new result
    → Ends (OrWants placed Q) old new result
stop_wants placed P Q is x old new result by says =
    Ends-map (OrNoMemory P) (OrWants placed Q) (wants_more placed P Q is) old new result (said_stop P x old new result by says)

pub stop_replies : (P Q : Status → List ℕ → Type 0) → ((s : Status) (text : List ℕ) → P s text → Q s text)
    → (x : Stop) (old new : SinkState) (result : Status) → StopsBy P x → SaysStop x old new result → Ends (OrNoMemory Q) old new result
stop_replies P Q is x old new result by says = said_stop Q x old new result (StopsBy-map P Q is x by) says

-- a reply of one kind is one of a wider kind, or memory was refused all the same
pub more_replies : (P Q : Status → List ℕ → Type 0) → ((s : Status) (text : List ℕ) → P s text → Q s text)
    → (old new : SinkState) (result : Status) → Ends (OrNoMemory P) old new result → Ends (OrNoMemory Q) old new result
more_replies P Q is old new result = Ends-map (OrNoMemory P) (OrNoMemory Q) each old new result
  where
    each : (s : Status) (text : List ℕ) → OrNoMemory P s text → OrNoMemory Q s text
    each s text (inl reply) = inl (is s text reply)
    each s text (inr wants) = inr wants

pub more_wants : (A B : Type 0) → (A → B) → (P Q : Status → List ℕ → Type 0) → ((s : Status) (text : List ℕ) → P s text → Q s text)
    → (old new : SinkState) (result : Status)
    → Ends (OrWants A P) old new result → Ends (OrWants B Q) old new result
more_wants A B placed P Q is old new result = Ends-map (OrWants A P) (OrWants B Q) each old new result
  where
    told : (text : List ℕ) → (text ≡ no_memory) ⊎ (A × (text ≡ placed_line ++ no_memory))
        → (text ≡ no_memory) ⊎ (B × (text ≡ placed_line ++ no_memory))
    told text (inl alone) = inl alone
    told text (inr after) = inr (placed after.0, after.1)

    each : (s : Status) (text : List ℕ) → OrWants A P s text → OrWants B Q s text
    each s text (inl reply) = inl (is s text reply)
    each s text (inr wants) = inr (record { status_is = wants.status_is; text_is = told text wants.text_is })

-- a cell with a bad shift is told
pub shift_told : (out : List ℕ) (decl : Declaration) (words : List ℕ) (cell : Position) → IsFirstBadShift words decl cell
    → (s : Status) (text : List ℕ) → Refuses out (shift_reason cell) s text → RefusesShift out decl words s text
shift_told out decl words cell first s text reply = record { cell = cell; first = first; reply = reply }

-- ---- the files

pub saved_ends : (order : RunOrder) (files : List SavedFile) (old mid new : ShelfState) → IsSaved old mid files
    → TakesOneEach old mid files → CountsNoRead old mid → GoesOn old mid → new.file ≡ mid.file → CountsNoChange mid new
    → (s : Status) (text : List ℕ) → OrWants (MayRun order mid new) (BackReply order mid new) s text
    → UnlessUnsaved old new (FilesAnswer order files old new) s text
saved_ends order files old mid new saved each_once no_read goes_on same no_change s text (inl back) =
    inr (inr (inl (record {
      all = record {
        after = mid;
        saved = saved;
        each_once = each_once;
        no_read = no_read;
        goes_on = goes_on;
        same = same;
        no_change = no_change;
      };
      back = back;
    })))
saved_ends order files old mid new saved each_once no_read goes_on same no_change s text (inr wants) =
    inr (inr (inr (record {
      all = record {
        after = mid;
        saved = saved;
        each_once = each_once;
        no_read = no_read;
        goes_on = goes_on;
        same = same;
        no_change = no_change;
      };
      wants = wants;
    })))

pub unsaved_ends : (order : RunOrder) (files : List SavedFile) (old new : ShelfState) (place : ℕ) (file : SavedFile)
    (text : List ℕ) → FailedAt old new files place → TakesOneUpTo old new place → CountsNoRead old new
    → slice_get files place ≡ Some file → text ≡ cannot_save file.name
    → UnlessUnsaved old new (FilesAnswer order files old new) status.ShelfFault text
unsaved_ends order files old new place file text failed up_to no_read at is =
    let same : Some file ≡ Some failed.failed = sym at ∙ failed.at in
    let name : file.name ≡ failed.failed.name = cc in
    inr (inl (record {
      place = place;
      failed = failed;
      up_to = up_to;
      no_read = no_read;
      status_is = refl;
      text_is = is
          ∙ ap cannot_save name ∙ sym (ap cannot_save failed.last_failed);
    }))

-- all but the first files stay, and so do all but all files
pub keeps_all : (old new : ShelfState) (files : List SavedFile) (count : ℕ) → KeepsAllBut old new files count
    → KeepsAllBut old new files (length files)
keeps_all old new files count keeps = λ name none. keeps name (λ i x within at. none i x (slice_get_within files i x at) at)

pub placed_answer : (order : RunOrder) (g : Graph) (place : List Position) (files : List SavedFile)
    (old new : ShelfState) → PlacesFiles order.out g place files
    → (s : Status) (text : List ℕ) → UnlessUnsaved old new (FilesAnswer order files old new) s text
    → PlacedAnswer order g place old new s text
placed_answer order g place files old new placed s text (inl unsaved) = inl unsaved
placed_answer order g place files old new placed s text (inr answer) =
    inr (record { files = files; placed = placed; answer = answer })
