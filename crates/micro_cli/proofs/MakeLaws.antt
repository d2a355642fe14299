-- What each outcome of `make` promises where a placement was found, and of every accepted source.
use Rattle.std.proofs.Common.{ℕ, zero, suc, ◌≡◌, ◌≢◌, ◌≤◌, ◌<◌, ◌+◌, ◌⊎◌, inl, inr, List, [], ◌∷◌, ◌++◌, length, map, Option, Some, Ok, slice_get, IsTrue, sym, ap, ◌∙◌, subst, arith}
use Rattle.std.proofs.lemmas.List.{length-map}
use Rattle.std.specs.Option.{option_map}
use Rattle.std.proofs.lemmas.Option.{slice_get-map}
use Rattle.io_base.specs.Shelf.{ShelfState, IsTold}
use Rattle.io_base.specs.Sink.{SinkState}
use Rattle.mcu_jumps.specs.Position.{Position}
use Rattle.bpnf.specs.Image.{Image}
use Rattle.bpnf.specs.Canonical.{image_text}
use Rattle.field_decl.specs.LayoutText.{layout_text}
use Rattle.flow_graph.specs.Graph.{Graph}
use Rattle.bus_script.specs.Script.{BusScript, script_of}
use Rattle.bus_script.specs.ScriptFits.{IsScriptFor}
use Rattle.flow_sim.specs.Flow.{flow_trace}
use Rattle.bus_bench.specs.Chip.{chip_trace}
use Rattle.bus_bench.specs.Matches.{Matches}
use Rattle.prom_split.specs.Images.{image_count}
use Rattle.saved_files.specs.SavedFile.{SavedFile}
use Rattle.saved_files.specs.FilesOfAnswers.{image_files, placed_files}
use Rattle.saved_files.specs.Saving.{IsSaved}
use Rattle.saved_files.proofs.FileNameLemmas.{name_at}
use Rattle.saved_files.proofs.OneFileLemmas.{told_goes_on}
use Rattle.saved_files.proofs.ComposingStates.{goes_on_both, tells_goes_on, same_file}
use Rattle.saved_files.proofs.StandingFiles.{map_stands, layout_stands, image_stands}
use Rattle.replies.specs.Ending.{Ends}
use Rattle.replies.specs.declared.status.Status.{Status}
use Rattle.replies.specs.declared.status.Status.TheVariants as status
use Rattle.bench_answers.specs.RunOrder.{RunOrder}
use Rattle.bench_answers.specs.PlacedFiles.{PlacesFiles}
use Rattle.bench_answers.specs.ReadingBack.{placed_line, BackReply, CannotReadBack, IsPlacedRun}
use Rattle.bench_answers.specs.Placed.{AreSaved}
use Rattle.micro_cli.specs.Accepted.{IsAccepted}
use Rattle.micro_cli.specs.After.{AfterReply}
use Rattle.micro_cli.specs.Making.{MakeAnswer}
use Rattle.micro_cli.specs.Headline.{IsNoFileName, Writes, SavesPlacement, IsMade, RepliesAs, NoFaultCounted, IsDecision}
use Rattle.micro_cli.proofs.AcceptedInputs.{RefusesOrFails, inputs_status, inputs_unread, starts_accepted, starts_go_on, starts_same, accepted_once}
use Rattle.micro_cli.proofs.MakeOutcomes.{Start, Found, Outcome, lacks_inputs, lacks_memory, lacks_file, found, refuted, undecided, outcome_of, Wrote, ends_wrote}
use Rattle.micro_cli.proofs.AcceptedLemmas.{accepted}
use Rattle.micro_cli.proofs.RunAfter.{RunsOrFails, back_is_run}

-- ---- the laws of what was saved, as the crate below gives them

abbrev pub SavedIsReadBack : Type 0
SavedIsReadBack =
    (order : RunOrder) (g : Graph) (place : List Position) (files : List SavedFile) (said : BusScript)
    (old new : ShelfState) (s : Status) (text : List ℕ)
    → IsTold old → (placed : PlacesFiles order.out g place files) → script_of g.decl.slices order.bytes ≡ Ok said → (all : AreSaved files old new)
    → BackReply order all.after new s text
    → CannotReadBack all.after new s text ⊎ IsPlacedRun g.decl placed.words said order.clocks s text

abbrev pub ImagesFollow : Type 0
ImagesFollow =
    (out : List ℕ) (g : Graph) (place : List Position) (files : List SavedFile) (script : BusScript) (n : ℕ)
    → (placed : PlacesFiles out g place files) → IsScriptFor g.decl.slices script
    → Matches place (chip_trace placed.words g.decl script n) (flow_trace g script n)

-- ---- statuses differ

abbrev IsDone : Status → Type 0
IsDone status.Done = Unit {0}
IsDone s = ⊥

abbrev IsInput : Status → Type 0
IsInput status.Input = Unit {0}
IsInput s = ⊥

-- after either no file was changed
abbrev ChangesNothing : Status → Type 0
ChangesNothing status.Words = Unit {0}
ChangesNothing status.Input = Unit {0}
ChangesNothing s = ⊥

-- ---- the placement

pub told_start : (src script : List ℕ) (old : ShelfState) (start : Start src script old) → IsTold old → IsTold start.mid
told_start src script old start told =
    told_goes_on old start.mid (starts_go_on src script old start.mid start.g start.bytes start.starts) told

-- what was found is read back, or a read fails
found_back : SavedIsReadBack → (src script out : List ℕ) (clocks : ℕ) (old new : ShelfState) (s : Status) (text : List ℕ) → IsTold old
    → (f : Found src script out clocks old new s text)
    → CannotReadBack f.all.after new s text ⊎ IsPlacedRun f.start.g.decl f.placed.words f.start.starts.read.said clocks s text
found_back law src script out clocks old new s text told f =
    let accepted = starts_accepted src script old f.start.mid f.start.g f.start.bytes told.tells f.start.starts in
    law (record { out = out; script = script; bytes = f.start.bytes; clocks = clocks }) f.start.g f.place f.files f.start.starts.read.said f.start.mid new s text
    (told_start src script old f.start told) f.placed accepted.says f.all f.back

-- the files of the placement stand at exit
found_saved : (src script out : List ℕ) (clocks : ℕ) (old new : ShelfState) (s : Status) (text : List ℕ) → IsTold old
    → (f : Found src script out clocks old new s text)
    → SavesPlacement out f.start.g f.place f.placed.words new.file
found_saved src script out clocks old new s text told f =
    let P : (List ℕ → Option (List ℕ)) → Type 0 = λ files. SavesPlacement out f.start.g f.place f.placed.words files in
    subst P (sym f.all.same) (record {
      legal = f.placed.legal;
      map_bytes = f.placed.map_bytes;
      map_is = f.placed.map_is;
      map_saved = map_stands f.start.mid f.all.after out f.placed.map_bytes (layout_text f.start.g.decl) (map image_text f.placed.images)
          mid_told saved;
      layout_saved = layout_stands f.start.mid f.all.after out f.placed.map_bytes (layout_text f.start.g.decl)
          (map image_text f.placed.images) mid_told saved;
      words_are = f.placed.words_are;
      images = f.placed.images;
      images_are = f.placed.images_are;
      images_saved = λ number image at. image_stands f.start.mid f.all.after out f.placed.map_bytes (layout_text f.start.g.decl)
          (map image_text f.placed.images) mid_told saved number (image_text image) (text_at number image at);
    })
  where
    mid_told : IsTold f.start.mid
    mid_told = told_start src script old f.start told

    saved : IsSaved f.start.mid f.all.after
        (placed_files out f.placed.map_bytes (layout_text f.start.g.decl) (map image_text f.placed.images))
    saved = let P : List SavedFile → Type 0 = λ fs. IsSaved f.start.mid f.all.after fs in subst P f.placed.files_are f.all.saved

    text_at : (number : ℕ) (image : Image) → slice_get f.placed.images number ≡ Some image
        → slice_get (map image_text f.placed.images) number ≡ Some (image_text image)
    text_at number image at = slice_get-map image_text f.placed.images number ∙ ap (option_map image_text) at

-- the files of the images have the names of their numbers
no_image_of : (out name : List ℕ) (count number : ℕ) (images : List (List ℕ)) (i : ℕ) (x : SavedFile) → IsNoFileName out count name
    → number + length images ≤ count
    → slice_get (image_files out number images) i ≡ Some x → x.name ≢ name
no_image_of out name count number [] i x other room at = cc
no_image_of out name count number (image ∷ images) zero x other room at =
    λ e. other.no_image number (omega (arith, room)) (sym (ap name_at at ∙ e))
no_image_of out name count number (image ∷ images) (suc i) x other room at =
    no_image_of out name count (number + 1) images i x other (omega (arith, room)) at

none_of_files : (out name map_bytes layout : List ℕ) (count : ℕ) (images : List (List ℕ)) (i : ℕ) (x : SavedFile)
    → IsNoFileName out count name → length images ≤ count
    → slice_get (placed_files out map_bytes layout images) i ≡ Some x → x.name ≢ name
none_of_files out name map_bytes layout count images zero x other room at = λ e. other.no_map (sym (ap name_at at ∙ e))
none_of_files out name map_bytes layout count images (suc zero) x other room at = λ e. other.no_layout (sym (ap name_at at ∙ e))
none_of_files out name map_bytes layout count images (suc (suc i)) x other room at =
    no_image_of out name count 0 images i x other (omega (arith, room)) at

-- all files of other names stay
found_others : (src script out : List ℕ) (clocks : ℕ) (old new : ShelfState) (s : Status) (text : List ℕ)
    → (f : Found src script out clocks old new s text)
    → (name : List ℕ) → IsNoFileName out (image_count f.start.g.decl) name → new.file name ≡ old.file name
found_others src script out clocks old new s text f name other =
    same_file f.all.after new name f.all.same
    ∙ f.all.saved.others name none
    ∙ same_file old f.start.mid name (starts_same src script old f.start.mid f.start.g f.start.bytes f.start.starts)
  where
    none : (i : ℕ) (x : SavedFile) → i < length f.files → slice_get f.files i ≡ Some x → x.name ≢ name
    none i x within at =
        let P : List SavedFile → Type 0 = λ fs. slice_get fs i ≡ Some x in
        let few : length (map image_text f.placed.images) ≤ image_count f.start.g.decl =
        omega (arith, length-map f.placed.images image_text, f.placed.images_are.fit.count) in
        none_of_files out name f.placed.map_bytes (layout_text f.start.g.decl) (image_count f.start.g.decl)
        (map image_text f.placed.images) i x other few (subst P f.placed.files_are at)

-- a placement was made
found_made : SavedIsReadBack → ImagesFollow
    → (src script out : List ℕ) (clocks : ℕ) (old new : ShelfState) (before after : SinkState) (s : Status) (text : List ℕ) → IsTold old
    → s ≡ status.Done
    → Writes before after text → Found src script out clocks old new s text → IsMade src script out clocks old new before after
found_made law follow src script out clocks old new before after s text told done written f =
    go (found_back law src script out clocks old new s text told f)
  where
    go : CannotReadBack f.all.after new s text ⊎ IsPlacedRun f.start.g.decl f.placed.words f.start.starts.read.said clocks s text
        → IsMade src script out clocks old new before after
    go (inl unread) = absurd (subst IsDone (sym done ∙ unread.status_is) tt)
    go (inr run) = record {
      g = f.start.g;
      bytes = f.start.bytes;
      said = f.start.starts.read.said;
      accepted = starts_accepted src script old f.start.mid f.start.g f.start.bytes told.tells f.start.starts;
      place = f.place;
      words = f.placed.words;
      saved = found_saved src script out clocks old new s text told f;
      others = found_others src script out clocks old new s text f;
      written = written ∙ ap (λ (t : List ℕ). before.bytes ++ t) run.text_is;
      follows = λ other n fits. follow out f.start.g f.place f.files other n f.placed fits;
    }

pub done_made : SavedIsReadBack → ImagesFollow
    → (src script out : List ℕ) (clocks conflicts : ℕ) (old new : ShelfState) (before after : SinkState) (s : Status) → IsTold old
    → IsTrue before.tells → s ≡ status.Done
    → Ends (MakeAnswer src script out clocks conflicts old new) before after s → IsMade src script out clocks old new before after
done_made law follow src script out clocks conflicts old new before after s told tells done ends =
    go (outcome_of src script out clocks conflicts old new s wrote.text wrote.is)
  where
    no_fault : s ≡ status.SinkFault → ⊥
    no_fault fault = subst IsDone (sym done ∙ fault) tt

    wrote : Wrote (MakeAnswer src script out clocks conflicts old new) before after s
    wrote = ends_wrote (MakeAnswer src script out clocks conflicts old new) before after s tells no_fault ends

    not_had : RefusesOrFails s → IsMade src script out clocks old new before after
    not_had (inl refuses) = absurd (subst IsDone (sym done ∙ refuses) tt)
    not_had (inr fails) = absurd (subst IsDone (sym done ∙ fails) tt)

    go : Outcome src script out clocks conflicts old new s wrote.text → IsMade src script out clocks old new before after
    go (lacks_inputs lacks) = not_had (inputs_status src script old new s wrote.text lacks.reply)
    go (lacks_memory wants) = absurd (subst IsDone (sym done ∙ wants) tt)
    go (lacks_file lacks) = absurd (subst IsDone (sym done ∙ lacks.status_is) tt)
    go (found f) = found_made law follow src script out clocks old new before after s wrote.text told done wrote.written f
    go (refuted r) = absurd (subst IsDone (sym done ∙ r.status_is) tt)
    go (undecided u) = absurd (subst IsDone (sym done ∙ u.status_is) tt)

-- ---- what was read back

-- the run of the files as they stood once all were saved
pub found_runs : (src script out : List ℕ) (clocks : ℕ) (old new : ShelfState) (s : Status) (text : List ℕ) → IsTrue old.tells
    → (f : Found src script out clocks old new s text)
    → RunsOrFails f.all.after.file out script f.start.bytes clocks s text
found_runs src script out clocks old new s text tells f =
    let goes_on = goes_on_both old f.start.mid f.all.after
    (starts_go_on src script old f.start.mid f.start.g f.start.bytes f.start.starts) f.all.goes_on in
    back_is_run (record { out = out; script = script; bytes = f.start.bytes; clocks = clocks }) f.all.after new s text f.start.starts.read.file.fits
    (tells_goes_on old f.all.after goes_on tells) f.back

-- the run of the files at exit
found_run : (src script out : List ℕ) (clocks : ℕ) (old new : ShelfState) (s : Status) (text : List ℕ) (g : Graph) (bytes : List ℕ)
    (said : BusScript) → IsTrue old.tells
    → IsAccepted src script old.file g bytes said → Found src script out clocks old new s text
    → RunsOrFails new.file out script bytes clocks s text
found_run src script out clocks old new s text g bytes said tells accepted f =
    let P : (List ℕ → Option (List ℕ)) → Type 0 = λ files. RunsOrFails files out script bytes clocks s text in
    let Q : List ℕ → Type 0 = λ b. RunsOrFails f.all.after.file out script b clocks s text in
    let start_accepted = starts_accepted src script old f.start.mid f.start.g f.start.bytes tells f.start.starts in
    let one = accepted_once src script old.file g f.start.g bytes f.start.bytes said f.start.starts.read.said accepted start_accepted in
    subst P (sym f.all.same) (subst Q one.bytes_are (found_runs src script out clocks old new s text tells f))

pub done_read_back : (src script out : List ℕ) (clocks conflicts : ℕ) (old new : ShelfState) (before after : SinkState) (s : Status)
    (g : Graph) (bytes : List ℕ) (said : BusScript) → IsTrue old.tells → IsTrue before.tells
    → IsAccepted src script old.file g bytes said → s ≡ status.Done
    → Ends (MakeAnswer src script out clocks conflicts old new) before after s
    → RepliesAs out script bytes clocks new before after placed_line status.Done
done_read_back src script out clocks conflicts old new before after s g bytes said tells sink_tells accepted done ends =
    go (outcome_of src script out clocks conflicts old new s wrote.text wrote.is)
  where
    no_fault : s ≡ status.SinkFault → ⊥
    no_fault fault = subst IsDone (sym done ∙ fault) tt

    wrote : Wrote (MakeAnswer src script out clocks conflicts old new) before after s
    wrote = ends_wrote (MakeAnswer src script out clocks conflicts old new) before after s sink_tells no_fault ends

    run : RunsOrFails new.file out script bytes clocks s wrote.text
        → RepliesAs out script bytes clocks new before after placed_line status.Done
    run (inl refused) = absurd (subst IsDone (sym done ∙ refused.status_is) tt)
    run (inr (inl done_run)) =
        let P : Status → Type 0 = λ x. AfterReply new.file out script bytes clocks x done_run.run in
        (done_run.run, subst P done done_run.reply, wrote.written ∙ ap (λ (t : List ℕ). before.bytes ++ t) done_run.text_is)
    run (inr (inr fails)) = absurd (subst IsDone (sym done ∙ fails) tt)

    go : Outcome src script out clocks conflicts old new s wrote.text
        → RepliesAs out script bytes clocks new before after placed_line status.Done
    go (lacks_inputs lacks) =
        let unread = inputs_unread src script old new g bytes said s wrote.text tells accepted lacks.reply in
        absurd (subst IsDone (sym done ∙ unread.status_is) tt)
    go (lacks_memory wants) = absurd (subst IsDone (sym done ∙ wants) tt)
    go (lacks_file lacks) = absurd (subst IsDone (sym done ∙ lacks.status_is) tt)
    go (found f) = run (found_run src script out clocks old new s wrote.text g bytes said tells accepted f)
    go (refuted r) = absurd (subst IsDone (sym done ∙ r.status_is) tt)
    go (undecided u) = absurd (subst IsDone (sym done ∙ u.status_is) tt)

pub input_read_back : (src script out : List ℕ) (clocks conflicts : ℕ) (old new : ShelfState) (before after : SinkState) (s : Status)
    (g : Graph) (bytes : List ℕ) (said : BusScript) → IsTrue old.tells → IsTrue before.tells
    → IsAccepted src script old.file g bytes said → s ≡ status.Input
    → Ends (MakeAnswer src script out clocks conflicts old new) before after s
    → RepliesAs out script bytes clocks new before after [] status.Input
input_read_back src script out clocks conflicts old new before after s g bytes said tells sink_tells accepted input ends =
    go (outcome_of src script out clocks conflicts old new s wrote.text wrote.is)
  where
    no_fault : s ≡ status.SinkFault → ⊥
    no_fault fault = subst IsInput (sym input ∙ fault) tt

    wrote : Wrote (MakeAnswer src script out clocks conflicts old new) before after s
    wrote = ends_wrote (MakeAnswer src script out clocks conflicts old new) before after s sink_tells no_fault ends

    run : RunsOrFails new.file out script bytes clocks s wrote.text → RepliesAs out script bytes clocks new before after [] status.Input
    run (inl refused) =
        let P : Status → Type 0 = λ x. AfterReply new.file out script bytes clocks x wrote.text in
        (wrote.text, subst P input refused.reply, wrote.written)
    run (inr (inl done_run)) = absurd (subst IsInput (sym input ∙ done_run.status_is) tt)
    run (inr (inr fails)) = absurd (subst IsInput (sym input ∙ fails) tt)

    go : Outcome src script out clocks conflicts old new s wrote.text → RepliesAs out script bytes clocks new before after [] status.Input
    go (lacks_inputs lacks) =
        let unread = inputs_unread src script old new g bytes said s wrote.text tells accepted lacks.reply in
        absurd (subst IsInput (sym input ∙ unread.status_is) tt)
    go (lacks_memory wants) = absurd (subst IsInput (sym input ∙ wants) tt)
    go (lacks_file lacks) = absurd (subst IsInput (sym input ∙ lacks.status_is) tt)
    go (found f) = run (found_run src script out clocks old new s wrote.text g bytes said tells accepted f)
    go (refuted r) = absurd (subst IsInput (sym input ∙ r.status_is) tt)
    go (undecided u) = absurd (subst IsInput (sym input ∙ u.status_is) tt)

-- ---- what stays

-- words and input that are refused change no file
changes_nothing : SavedIsReadBack → (src script out : List ℕ) (clocks conflicts : ℕ) (old new : ShelfState) (s : Status) (text : List ℕ)
    → IsTold old → ChangesNothing s
    → MakeAnswer src script out clocks conflicts old new s text → new.file ≡ old.file
changes_nothing law src script out clocks conflicts old new s text told nothing answer =
    go (outcome_of src script out clocks conflicts old new s text answer)
  where
    back : (f : Found src script out clocks old new s text)
        → CannotReadBack f.all.after new s text ⊎ IsPlacedRun f.start.g.decl f.placed.words f.start.starts.read.said clocks s text
        → new.file ≡ old.file
    back f (inl unread) = absurd (subst ChangesNothing unread.status_is nothing)
    back f (inr run) = absurd (subst ChangesNothing run.status_is nothing)

    go : Outcome src script out clocks conflicts old new s text → new.file ≡ old.file
    go (lacks_inputs lacks) = lacks.same
    go (lacks_memory wants) = absurd (subst ChangesNothing wants nothing)
    go (lacks_file lacks) = absurd (subst ChangesNothing lacks.status_is nothing)
    go (found f) = back f (found_back law src script out clocks old new s text told f)
    go (refuted r) = absurd (subst ChangesNothing r.status_is nothing)
    go (undecided u) = absurd (subst ChangesNothing u.status_is nothing)

pub nothing_changed : SavedIsReadBack
    → (src script out : List ℕ) (clocks conflicts : ℕ) (old new : ShelfState) (before after : SinkState) (s : Status) → IsTold old
    → (s ≡ status.Words) ⊎ (s ≡ status.Input)
    → Ends (MakeAnswer src script out clocks conflicts old new) before after s → new.file ≡ old.file
nothing_changed law src script out clocks conflicts old new before after s told is ends = go ends
  where
    of_either : (s ≡ status.Words) ⊎ (s ≡ status.Input) → ChangesNothing s
    of_either (inl words) = subst ChangesNothing (sym words) tt
    of_either (inr input) = subst ChangesNothing (sym input) tt

    go : Ends (MakeAnswer src script out clocks conflicts old new) before after s → new.file ≡ old.file
    go (inl ended) = changes_nothing law src script out clocks conflicts old new s ended.0 told (of_either is) ended.1
    go (inr failed) = absurd (subst ChangesNothing failed.0 (of_either is))

-- ---- every accepted source

pub accepted_decides : SavedIsReadBack
    → (src script out : List ℕ) (clocks conflicts : ℕ) (old new : ShelfState) (before after : SinkState) (s : Status) (g : Graph)
    (bytes : List ℕ) (said : BusScript) → IsTold old
    → IsAccepted src script old.file g bytes said → NoFaultCounted old new before after
    → Ends (MakeAnswer src script out clocks conflicts old new) before after s → IsDecision s
accepted_decides law src script out clocks conflicts old new before after s g bytes said told accepted faultless (inr failed) =
    absurd (faultless.sink failed.1)
accepted_decides law src script out clocks conflicts old new before after s g bytes said told accepted faultless (inl ended) =
    go (outcome_of src script out clocks conflicts old new s ended.0 ended.1)
  where
    back : (f : Found src script out clocks old new s ended.0)
        → CannotReadBack f.all.after new s ended.0 ⊎ IsPlacedRun f.start.g.decl f.placed.words f.start.starts.read.said clocks s ended.0
        → IsDecision s
    back f (inl unread) =
        let goes_on = goes_on_both old f.start.mid f.all.after
        (starts_go_on src script old f.start.mid f.start.g f.start.bytes f.start.starts) f.all.goes_on in
        absurd (faultless.shelf (omega (arith, goes_on.later, unread.rose)))
    back f (inr run) = inl run.status_is

    go : Outcome src script out clocks conflicts old new s ended.0 → IsDecision s
    go (lacks_inputs lacks) =
        absurd (faultless.shelf (inputs_unread src script old new g bytes said s ended.0 told.tells accepted lacks.reply).rose)
    go (lacks_memory wants) = inr (inr (inr wants))
    go (lacks_file lacks) = absurd (faultless.shelf lacks.rose)
    go (found f) = back f (found_back law src script out clocks old new s ended.0 told f)
    go (refuted r) = inr (inl r.status_is)
    go (undecided u) = inr (inr (inl u.status_is))

-- ---- accepted inputs are not refused

pub accepted_not_refused : SavedIsReadBack
    → (src script out : List ℕ) (clocks conflicts : ℕ) (old new : ShelfState) (before after : SinkState) (s : Status) (g : Graph)
    (bytes : List ℕ) (said : BusScript) → IsTold old
    → IsAccepted src script old.file g bytes said → Ends (MakeAnswer src script out clocks conflicts old new) before after s
    → s ≢ status.Input
accepted_not_refused law src script out clocks conflicts old new before after s g bytes said told accepted (inr failed) =
    λ input. subst IsInput (sym input ∙ failed.0) tt
accepted_not_refused law src script out clocks conflicts old new before after s g bytes said told accepted (inl ended) =
    go (outcome_of src script out clocks conflicts old new s ended.0 ended.1)
  where
    back : (f : Found src script out clocks old new s ended.0)
        → CannotReadBack f.all.after new s ended.0 ⊎ IsPlacedRun f.start.g.decl f.placed.words f.start.starts.read.said clocks s ended.0
        → s ≢ status.Input
    back f (inl unread) = λ input. subst IsInput (sym input ∙ unread.status_is) tt
    back f (inr run) = λ input. subst IsInput (sym input ∙ run.status_is) tt

    go : Outcome src script out clocks conflicts old new s ended.0 → s ≢ status.Input
    go (lacks_inputs lacks) =
        λ input. subst IsInput
        (sym input ∙ (inputs_unread src script old new g bytes said s ended.0 told.tells accepted lacks.reply).status_is) tt
    go (lacks_memory wants) = λ input. subst IsInput (sym input ∙ wants) tt
    go (lacks_file lacks) = λ input. subst IsInput (sym input ∙ lacks.status_is) tt
    go (found f) = back f (found_back law src script out clocks old new s ended.0 told f)
    go (refuted r) = λ input. subst IsInput (sym input ∙ r.status_is) tt
    go (undecided u) = λ input. subst IsInput (sym input ∙ u.status_is) tt
