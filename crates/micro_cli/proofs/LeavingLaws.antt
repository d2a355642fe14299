-- How `make` leaves files and counts, read off its answer.
use Rattle.std.proofs.Common.{ℕ, ◌≡◌, ◌⊎◌, inl, inr, List, [], ◌∷◌, length, refl, sym, ap, ◌∙◌, subst}
use Rattle.io_base.specs.Causes.{counted}
use Rattle.io_base.specs.Shelf.{ShelfState, GoesOn, CountsNoChange, CountsChanges}
use Rattle.io_base.specs.Sink.{SinkState}
use Rattle.saved_files.specs.SavedFile.{SavedFile}
use Rattle.field_decl.specs.Declaration.{Declaration}
use Rattle.bus_script.specs.Script.{BusScript}
use Rattle.saved_files.specs.FileNames.{layout_name, image_name, refutation_name, undecided_name}
use Rattle.saved_files.specs.FilesOfAnswers.{file_of, refuted_files, undecided_files}
use Rattle.saved_files.specs.Saving.{IsSaved}
use Rattle.saved_files.proofs.ComposingStates.{no_change_both, saved_between, failed_before}
use Rattle.placement_clauses.specs.Clauses.{clauses_of}
use Rattle.ref_text.specs.Text.{refutation_text, part_text}
use Rattle.replies.specs.Ending.{Ends}
use Rattle.replies.specs.declared.status.Status.{Status}
use Rattle.replies.specs.declared.status.Status.TheVariants as status
use Rattle.prom_files.specs.LayoutStep.{layout_limit}
use Rattle.prom_files.specs.ImagesStep.{image_limit, ImageReply}
use Rattle.prom_files.specs.WordsStep.{WordsReply}
use Rattle.bench_answers.specs.RunOrder.{RunOrder}
use Rattle.bench_answers.specs.ReadingBack.{ShiftOrRun, BackReply}
use Rattle.bench_answers.specs.Placed.{CannotSave, AreSaved, FilesAnswer, UnlessUnsaved}
use Rattle.micro_cli.specs.Telling.{refuted_line, undecided_line}
use Rattle.micro_cli.specs.Saving.{SavesOrCannot}
use Rattle.micro_cli.specs.Searching.{FoundAnswer, SearchEnd}
use Rattle.micro_cli.specs.Making.{MakeAnswer}
use Rattle.micro_cli.specs.Leaving.{ArePlacedFiles, AreAnswerFiles, SavesOrFails, TakesOneOfEach}
use Rattle.micro_cli.proofs.AcceptedInputs.{RefusesOrFails, file_status, inputs_status, starts_go_on, starts_same}
use Rattle.micro_cli.proofs.MakeOutcomes.{Start, Found, Outcome, lacks_inputs, lacks_memory, lacks_file, found, refuted, undecided, outcome_of}

-- ---- files that are left

-- how files of an answer are left by a call that ends with this status: where memory is refused, all or none
record Leaves (out : List ℕ) (old new : ShelfState) (s : Status) : Type 0 where
  all_or_some : (new.file ≡ old.file) ⊎ SavesOrFails out old new
  no_part : s ≡ status.NoMemory → (new.file ≡ old.file) ⊎ ((files : List SavedFile) × ArePlacedFiles out files × IsSaved old new files)

abbrev IsWant : Status → Type 0
IsWant status.NoMemory = Unit {0}
IsWant s = ⊥

-- a status that is not want of memory
is_none : {A : Type 0} (s t : Status) → s ≡ t → (IsWant t → ⊥) → s ≡ status.NoMemory → A
is_none s t is other want = absurd (other (subst IsWant (sym want ∙ is) tt))

leaves_none : (out : List ℕ) (old new : ShelfState) (s : Status) → new.file ≡ old.file → Leaves out old new s
leaves_none out old new s same = record { all_or_some = inl same; no_part = λ want. inl same }

-- files of any answer were not all saved
leaves_part : (out : List ℕ) (old mid new : ShelfState) (files : List SavedFile) (s : Status) (text : List ℕ) → AreAnswerFiles out files
    → GoesOn old mid → mid.file ≡ old.file → CannotSave files mid new s text → Leaves out old new s
leaves_part out old mid new files s text are goes_on same cannot = record {
  all_or_some = inr (files, are, inr (cannot.place, failed_before old mid new files cannot.place goes_on same cannot.failed));
  no_part = is_none s status.ShelfFault cannot.status_is (λ impossible. impossible);
}

-- files of a placement were saved
leaves_placed : (out : List ℕ) (old mid new : ShelfState) (files : List SavedFile) (s : Status) → ArePlacedFiles out files
    → GoesOn old mid → mid.file ≡ old.file → AreSaved files mid new → Leaves out old new s
leaves_placed out old mid new files s are goes_on same all =
    let saved = saved_between old mid all.after new files goes_on same all.same all.saved in
    record { all_or_some = inr (files, inl are, inl saved); no_part = λ want. inr (files, are, saved) }

-- one file was saved and told, or was not
leaves_one : (out : List ℕ) (old mid new : ShelfState) (files : List SavedFile) (told : Status) (line : List ℕ) (s : Status)
    (text : List ℕ) → AreAnswerFiles out files → (IsWant told → ⊥)
    → GoesOn old mid → mid.file ≡ old.file → SavesOrCannot files told line mid new s text → Leaves out old new s
leaves_one out old mid new files told line s text are other goes_on same (inl cannot) =
    leaves_part out old mid new files s text are goes_on same cannot
leaves_one out old mid new files told line s text are other goes_on same (inr saves) = record {
  all_or_some = inr (files, are, inl (saved_between old mid new new files goes_on same refl saves.saved));
  no_part = is_none s told saves.status_is other;
}

leaves_made : (src script out : List ℕ) (clocks conflicts : ℕ) (old new : ShelfState) (s : Status) (text : List ℕ)
    → MakeAnswer src script out clocks conflicts old new s text → Leaves out old new s
leaves_made src script out clocks conflicts old new s text (inl without) = leaves_none out old new s without.left.same
leaves_made src script out clocks conflicts old new s text (inr from) = go from.answer
  where
    goes_on : GoesOn old from.mid
    goes_on = starts_go_on src script old from.mid from.g from.bytes from.starts

    same : from.mid.file ≡ old.file
    same = starts_same src script old from.mid from.g from.bytes from.starts

    placed : (f : FoundAnswer (record { out = out; script = script; bytes = from.bytes; clocks = clocks }) from.g from.mid new s text)
        → FilesAnswer (record { out = out; script = script; bytes = from.bytes; clocks = clocks }) f.placed.files from.mid new s text → Leaves out old new s
    placed f (inl cannot) =
        leaves_part out old from.mid new f.placed.files s text (inl (from.g, f.place, f.placed.placed)) goes_on same cannot
    placed f (inr (inl saved)) = leaves_placed out old from.mid new f.placed.files s (from.g, f.place, f.placed.placed) goes_on same saved.all
    placed f (inr (inr wants)) = leaves_placed out old from.mid new f.placed.files s (from.g, f.place, f.placed.placed) goes_on same wants.all

    go : UnlessUnsaved from.mid new (SearchEnd (record { out = out; script = script; bytes = from.bytes; clocks = clocks }) conflicts from.g from.mid new) s text → Leaves out old new s
    go (inl wants) = leaves_none out old new s (ap (λ (shelf : ShelfState). shelf.file) wants.same ∙ same)
    go (inr (inl f)) = placed f f.placed.answer
    go (inr (inr (inl r))) =
        let bytes = refutation_text (length (clauses_of from.g)) r.lines in
        leaves_one out old from.mid new (refuted_files out bytes) status.Refuted (refuted_line (length r.lines)) s text
        (inr (inl (bytes, refl))) (λ impossible. impossible) goes_on same r.answer
    go (inr (inr (inr u))) =
        let bytes = part_text (length (clauses_of from.g)) u.lines u.clash in
        leaves_one out old from.mid new (undecided_files out bytes) status.Undecided (undecided_line conflicts) s text
        (inr (inr (bytes, refl))) (λ impossible. impossible) goes_on same u.answer

pub make_leaves : (src script out : List ℕ) (clocks conflicts : ℕ) (old new : ShelfState) (before after : SinkState) (s : Status)
    → Ends (MakeAnswer src script out clocks conflicts old new) before after s → (new.file ≡ old.file) ⊎ SavesOrFails out old new
make_leaves src script out clocks conflicts old new before after s (inl ended) =
    (leaves_made src script out clocks conflicts old new s ended.0 ended.1).all_or_some
make_leaves src script out clocks conflicts old new before after s (inr failed) =
    let answer = failed.2 in
    (leaves_made src script out clocks conflicts old new answer.0 answer.1 answer.2).all_or_some

pub make_leaves_no_part : (src script out : List ℕ) (clocks conflicts : ℕ) (old new : ShelfState) (before after : SinkState) (s : Status)
    → s ≡ status.NoMemory → Ends (MakeAnswer src script out clocks conflicts old new) before after s
    → (new.file ≡ old.file) ⊎ ((files : List SavedFile) × ArePlacedFiles out files × IsSaved old new files)
make_leaves_no_part src script out clocks conflicts old new before after s want (inl ended) =
    (leaves_made src script out clocks conflicts old new s ended.0 ended.1).no_part want
make_leaves_no_part src script out clocks conflicts old new before after s want (inr failed) =
    is_none s status.SinkFault failed.0 (λ impossible. impossible) want

-- ---- counts

-- counts that changed so between two states changed so between an earlier and a later one, where they stood still
changes_between : (old mid after new : ShelfState) (begun added : ℕ) → CountsNoChange old mid → CountsChanges mid after begun added
    → CountsNoChange after new → CountsChanges old new begun added
changes_between old mid after new begun added before changes since = record {
  creates = since.creates ∙ changes.creates ∙ ap (λ (n : ℕ). counted n begun) before.creates;
  appends = since.appends ∙ changes.appends ∙ ap (λ (n : ℕ). counted n added) before.appends;
}

-- from the start of a search on
start_no_change : (src script : List ℕ) (old : ShelfState) (start : Start src script old) → CountsNoChange old start.mid
start_no_change src script old start =
    no_change_both old start.starts.mid start.mid start.starts.source.file.no_change start.starts.read.file.no_change

no_change_at_all : (shelf : ShelfState) → CountsNoChange shelf shelf
no_change_at_all shelf = record { creates = refl; appends = refl }

-- statuses that tell of no calls
of_refusal : (out : List ℕ) (old new : ShelfState) (s : Status) → RefusesOrFails s → TakesOneOfEach out old new s
of_refusal out old new s (inl refuses) = subst (TakesOneOfEach out old new) (sym refuses) tt
of_refusal out old new s (inr fails) = subst (TakesOneOfEach out old new) (sym fails) tt

-- what is replied to what was read back is a refusal, a failed read, or a run
words_status : (out : List ℕ) (old new : ShelfState) (s : Status) (text : List ℕ) → WordsReply out old new s text → RefusesOrFails s
words_status out old new s text (inl (inl reply)) = file_status (layout_name out) layout_limit old new s text reply
words_status out old new s text (inl (inr refused)) = inl refused.told.status_is
words_status out old new s text (inr lacks) = go lacks.reply.reply
  where
    go : ImageReply (image_name out lacks.reply.number) lacks.decl.prom_bits lacks.reply.mid new s text → RefusesOrFails s
    go (inl reply) = file_status (image_name out lacks.reply.number) image_limit lacks.reply.mid new s text reply
    go (inr refused) = inl refused.reply.status_is

run_status : (out : List ℕ) (decl : Declaration) (words : List ℕ) (said : BusScript) (clocks : ℕ) (s : Status) (text : List ℕ)
    → ShiftOrRun out decl words said clocks s text → RefusesOrFails s ⊎ (s ≡ status.Done)
run_status out decl words said clocks s text (inl masked) = inl (inl masked.reply.status_is)
run_status out decl words said clocks s text (inr run) = inr run.status_is

back_status : (order : RunOrder) (old new : ShelfState) (s : Status) (text : List ℕ)
    → BackReply order old new s text → RefusesOrFails s ⊎ (s ≡ status.Done)
back_status order old new s text (inl reply) = inl (words_status order.out old new s text reply)
back_status order old new s text (inr (decl, words, has, inl refused)) = inl (inl refused.reply.status_is)
back_status order old new s text (inr (decl, words, has, inr (said, meant, answer))) =
    run_status order.out decl words said order.clocks s text answer

found_once : (src script out : List ℕ) (clocks : ℕ) (old new : ShelfState) (s : Status) (text : List ℕ)
    → Found src script out clocks old new s text → TakesOneOfEach out old new s
found_once src script out clocks old new s text f = go (back_status (record { out = out; script = script; bytes = f.start.bytes; clocks = clocks }) f.all.after new s text f.back)
  where
    go : RefusesOrFails s ⊎ (s ≡ status.Done) → TakesOneOfEach out old new s
    go (inl other) = of_refusal out old new s other
    go (inr done) =
        subst (TakesOneOfEach out old new) (sym done) (
          f.files,
          (f.start.g, f.place, f.placed),
          changes_between old f.start.mid f.all.after new (length f.files) (length f.files) (start_no_change src script old f.start)
              f.all.each_once.calls f.all.no_change,
        )

-- one file was saved and told by a status, or was not
one_once : (src script out : List ℕ) (old new : ShelfState) (start : Start src script old) (name bytes line : List ℕ) (told s : Status)
    (text : List ℕ)
    → (CountsChanges old new 1 1 → TakesOneOfEach out old new told)
    → SavesOrCannot (file_of name bytes ∷ []) told line start.mid new s text → TakesOneOfEach out old new s
one_once src script out old new start name bytes line told s text is (inl cannot) =
    subst (TakesOneOfEach out old new) (sym cannot.status_is) tt
one_once src script out old new start name bytes line told s text is (inr saves) =
    subst (TakesOneOfEach out old new) (sym saves.status_is)
    (is (changes_between old start.mid new new 1 1 (start_no_change src script old start) saves.each_once.calls (no_change_at_all new)))

once_made : (src script out : List ℕ) (clocks conflicts : ℕ) (old new : ShelfState) (s : Status) (text : List ℕ)
    → Outcome src script out clocks conflicts old new s text → TakesOneOfEach out old new s
once_made src script out clocks conflicts old new s text (lacks_inputs lacks) =
    of_refusal out old new s (inputs_status src script old new s text lacks.reply)
once_made src script out clocks conflicts old new s text (lacks_memory wants) = subst (TakesOneOfEach out old new) (sym wants) tt
once_made src script out clocks conflicts old new s text (lacks_file lacks) =
    subst (TakesOneOfEach out old new) (sym lacks.status_is) tt
once_made src script out clocks conflicts old new s text (found f) = found_once src script out clocks old new s text f
once_made src script out clocks conflicts old new s text (refuted r) =
    one_once src script out old new r.start (refutation_name out) (refutation_text (length (clauses_of r.start.g)) r.answer.lines)
    (refuted_line (length r.answer.lines)) status.Refuted s text (λ changes. changes) r.answer.answer
once_made src script out clocks conflicts old new s text (undecided u) =
    one_once src script out old new u.start (undecided_name out)
    (part_text (length (clauses_of u.start.g)) u.answer.lines u.answer.clash)
    (undecided_line conflicts) status.Undecided s text (λ changes. changes) u.answer.answer

pub make_saves_once : (src script out : List ℕ) (clocks conflicts : ℕ) (old new : ShelfState) (before after : SinkState) (s : Status)
    → Ends (MakeAnswer src script out clocks conflicts old new) before after s → TakesOneOfEach out old new s
make_saves_once src script out clocks conflicts old new before after s (inl ended) =
    once_made src script out clocks conflicts old new s ended.0 (outcome_of src script out clocks conflicts old new s ended.0 ended.1)
make_saves_once src script out clocks conflicts old new before after s (inr failed) =
    subst (TakesOneOfEach out old new) (sym failed.0) tt
