-- The outcomes of `make`, each with all that is known of it.
use Rattle.std.proofs.Common.{ℕ, ◌≡◌, inl, inr, List, length, IsTrue, arith}
use Rattle.io_base.specs.Causes.{Rose}
use Rattle.io_base.specs.Shelf.{ShelfState}
use Rattle.io_base.specs.Sink.{SinkState}
use Rattle.mcu_jumps.specs.Position.{Position}
use Rattle.flow_graph.specs.Graph.{Graph}
use Rattle.placement_clauses.specs.Clauses.{clauses_of}
use Rattle.ref_text.specs.Text.{refutation_text, part_text}
use Rattle.saved_files.specs.SavedFile.{SavedFile}
use Rattle.saved_files.specs.FilesOfAnswers.{refuted_files, undecided_files}
use Rattle.micro_cli.specs.Telling.{refuted_line, undecided_line}
use Rattle.replies.specs.Ending.{Ends, OrNoMemory}
use Rattle.replies.specs.declared.status.Status.{Status}
use Rattle.replies.specs.declared.status.Status.TheVariants as status
use Rattle.bench_answers.specs.PlacedFiles.{PlacesFiles}
use Rattle.bench_answers.specs.ReadingBack.{BackReply}
use Rattle.bench_answers.specs.Placed.{CannotSave, AreSaved, FilesAnswer, UnlessUnsaved}
use Rattle.micro_cli.specs.Saving.{SavesOrCannot}
use Rattle.micro_cli.specs.Searching.{FoundAnswer, RefutedAnswer, UndecidedAnswer, SearchEnd}
use Rattle.micro_cli.specs.Inputs.{InputsReply}
use Rattle.micro_cli.specs.Making.{StartsFrom, MakeAnswer}
use Rattle.micro_cli.specs.Headline.{Writes}
use Rattle.micro_cli.proofs.AcceptedInputs.{starts_go_on}

-- inputs were not had, and no file changed
pub record LacksInputs (src script : List ℕ) (old new : ShelfState) (s : Status) (text : List ℕ) : Type 0 where
  pub reply : InputsReply src script old new s text
  pub same : new.file ≡ old.file

-- a file was not saved
pub record LacksFile (old new : ShelfState) (s : Status) : Type 0 where
  pub status_is : s ≡ status.ShelfFault
  pub rose : Rose old.faults new.faults

-- what a command starts from
pub record Start (src script : List ℕ) (old : ShelfState) : Type 0 where
  pub g : Graph
  pub bytes : List ℕ
  pub mid : ShelfState
  pub starts : StartsFrom src script old mid g bytes

-- a placement was saved and read back
pub record Found (src script out : List ℕ) (clocks : ℕ) (old new : ShelfState) (s : Status) (text : List ℕ) : Type 0 where
  pub start : Start src script old
  pub place : List Position
  pub files : List SavedFile
  pub placed : PlacesFiles out start.g place files
  pub all : AreSaved files start.mid new
  pub back : BackReply (record { out = out; script = script; bytes = start.bytes; clocks = clocks }) all.after new s text

-- a refutation was found, and became this
pub record Refuted (src script out : List ℕ) (conflicts : ℕ) (old new : ShelfState) (s : Status) (text : List ℕ) : Type 0 where
  pub start : Start src script old
  pub answer : RefutedAnswer out start.g conflicts start.mid new s text
  pub status_is : s ≡ status.Refuted

-- a budget was spent, and became this
pub record Undecided (src script out : List ℕ) (conflicts : ℕ) (old new : ShelfState) (s : Status) (text : List ℕ) : Type 0 where
  pub start : Start src script old
  pub answer : UndecidedAnswer out start.g conflicts start.mid new s text
  pub status_is : s ≡ status.Undecided

-- what `make` came to
pub data Outcome (src script out : List ℕ) (clocks conflicts : ℕ) (old new : ShelfState) (s : Status) (text : List ℕ) : Type 0 where
  lacks_inputs : LacksInputs src script old new s text → Outcome src script out clocks conflicts old new s text
  lacks_memory : s ≡ status.NoMemory → Outcome src script out clocks conflicts old new s text
  lacks_file : LacksFile old new s → Outcome src script out clocks conflicts old new s text
  found : Found src script out clocks old new s text → Outcome src script out clocks conflicts old new s text
  refuted : Refuted src script out conflicts old new s text → Outcome src script out clocks conflicts old new s text
  undecided : Undecided src script out conflicts old new s text → Outcome src script out clocks conflicts old new s text

-- ---- from the answer

unsaved : (src script : List ℕ) (old new : ShelfState) (start : Start src script old) (files : List SavedFile) (s : Status)
    (text : List ℕ)
    → CannotSave files start.mid new s text → LacksFile old new s
unsaved src script old new start files s text cannot =
    let goes_on = starts_go_on src script old start.mid start.g start.bytes start.starts in
    record { status_is = cannot.status_is; rose = omega (arith, goes_on.later, cannot.failed.rose) }

found_outcome : (src script out : List ℕ) (clocks conflicts : ℕ) (old new : ShelfState) (s : Status) (text : List ℕ)
    (start : Start src script old)
    → FoundAnswer (record { out = out; script = script; bytes = start.bytes; clocks = clocks }) start.g start.mid new s text → Outcome src script out clocks conflicts old new s text
found_outcome src script out clocks conflicts old new s text start answer = go answer.placed.answer
  where
    go : FilesAnswer (record { out = out; script = script; bytes = start.bytes; clocks = clocks }) answer.placed.files start.mid new s text
        → Outcome src script out clocks conflicts old new s text
    go (inl cannot) = lacks_file (unsaved src script old new start answer.placed.files s text cannot)
    go (inr (inl saved)) =
        found (record {
          start = start;
          place = answer.place;
          files = answer.placed.files;
          placed = answer.placed.placed;
          all = saved.all;
          back = saved.back;
        })
    go (inr (inr wants)) = lacks_memory wants.wants.status_is

refuted_outcome : (src script out : List ℕ) (clocks conflicts : ℕ) (old new : ShelfState) (s : Status) (text : List ℕ)
    (start : Start src script old)
    → RefutedAnswer out start.g conflicts start.mid new s text → Outcome src script out clocks conflicts old new s text
refuted_outcome src script out clocks conflicts old new s text start answer = go answer.answer
  where
    go : SavesOrCannot (refuted_files out (refutation_text (length (clauses_of start.g)) answer.lines)) status.Refuted
        (refuted_line (length answer.lines)) start.mid new s text → Outcome src script out clocks conflicts old new s text
    go (inl cannot) = lacks_file
        (unsaved src script old new start (refuted_files out (refutation_text (length (clauses_of start.g)) answer.lines)) s text cannot)
    go (inr saved) = refuted (record { start = start; answer = answer; status_is = saved.status_is })

undecided_outcome : (src script out : List ℕ) (clocks conflicts : ℕ) (old new : ShelfState) (s : Status) (text : List ℕ)
    (start : Start src script old)
    → UndecidedAnswer out start.g conflicts start.mid new s text → Outcome src script out clocks conflicts old new s text
undecided_outcome src script out clocks conflicts old new s text start answer = go answer.answer
  where
    go : SavesOrCannot (undecided_files out (part_text (length (clauses_of start.g)) answer.lines answer.clash)) status.Undecided
        (undecided_line conflicts) start.mid new s text → Outcome src script out clocks conflicts old new s text
    go (inl cannot) = lacks_file
        (unsaved src script old new start (undecided_files out (part_text (length (clauses_of start.g)) answer.lines answer.clash))
        s text cannot)
    go (inr saved) = undecided (record { start = start; answer = answer; status_is = saved.status_is })

-- what an answer came to
pub outcome_of : (src script out : List ℕ) (clocks conflicts : ℕ) (old new : ShelfState) (s : Status) (text : List ℕ)
    → MakeAnswer src script out clocks conflicts old new s text → Outcome src script out clocks conflicts old new s text
outcome_of src script out clocks conflicts old new s text (inl without) = go without.told
  where
    go : OrNoMemory (InputsReply src script old new) s text → Outcome src script out clocks conflicts old new s text
    go (inl reply) = lacks_inputs (record { reply = reply; same = without.left.same })
    go (inr wants) = lacks_memory wants.0
outcome_of src script out clocks conflicts old new s text (inr from) = go from.answer
  where
    start : Start src script old
    start = record { g = from.g; bytes = from.bytes; mid = from.mid; starts = from.starts }

    go : UnlessUnsaved from.mid new (SearchEnd (record { out = out; script = script; bytes = from.bytes; clocks = clocks }) conflicts from.g from.mid new) s text
        → Outcome src script out clocks conflicts old new s text
    go (inl wants) = lacks_memory wants.status_is
    go (inr (inl answer)) = found_outcome src script out clocks conflicts old new s text start answer
    go (inr (inr (inl answer))) = refuted_outcome src script out clocks conflicts old new s text start answer
    go (inr (inr (inr answer))) = undecided_outcome src script out clocks conflicts old new s text start answer

-- ---- at the sink

-- the whole text that a call wrote
pub record Wrote (answer : Status → List ℕ → Type 0) (before after : SinkState) (s : Status) : Type 0 where
  pub text : List ℕ
  pub is : answer s text
  pub written : Writes before after text

pub ends_wrote : (answer : Status → List ℕ → Type 0) (before after : SinkState) (s : Status) → IsTrue before.tells
    → (s ≡ status.SinkFault → ⊥)
    → Ends answer before after s → Wrote answer before after s
ends_wrote answer before after s tells fine (inl said) = record { text = said.0; is = said.1; written = said.2 tells }
ends_wrote answer before after s tells fine (inr failed) = absurd (fine failed.0)
