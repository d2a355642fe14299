-- How what became of a file is what the search answers.
use Rattle.std.proofs.Common.{ℕ, ◌≡◌, ◌+◌, ◌*◌, ◌^◌, ◌<◌, ◌≤◌, inl, inr, List, [], ◌∷◌, length, refl, sym, ap, subst, arith}
use Rattle.std.specs.Prelude.{string_bytes}
use Rattle.io_base.specs.Shelf.{ShelfState, CountsChanges}
use Rattle.io_base.specs.Sink.{SinkState}
use Rattle.mcu_jumps.specs.Position.{Position}
use Rattle.flow_graph.specs.Graph.{Graph}
use Rattle.clause_base.specs.Refutation.{Refutes}
use Rattle.clause_base.specs.Spent.{Spent}
use Rattle.clause_base.specs.declared.line.Line.{Line}
use Rattle.clause_base.specs.declared.clash.Clash.{Clash}
use Rattle.placement_clauses.specs.Clauses.{clauses_of}
use Rattle.clause_encode.specs.PlacementList.{list_of}
use Rattle.placer.specs.Placing.{HasNoPlacement}
use Rattle.ref_text.specs.Text.{refutation_text, part_text}
use Rattle.refute_check.specs.Check.{check}
use Rattle.refute_check.specs.declared.checked.Checked.TheVariants as checked
use Rattle.saved_files.specs.FilesOfAnswers.{file_of, refuted_files, undecided_files}
use Rattle.saved_files.specs.OneFile.{IsWritten, IsUnwritten}
use Rattle.saved_files.specs.Saving.{IsSaved, FailedAt, TakesOneUpTo}
use Rattle.saved_files.specs.Unsaved.{cannot_save}
use Rattle.replies.specs.Texts.{no_memory}
use Rattle.replies.specs.Ending.{Says, Ends}
use Rattle.replies.specs.declared.status.Status.{Status}
use Rattle.replies.specs.declared.status.Status.TheVariants as status
use Rattle.replies.proofs.Stopping.{Ends-map, says_ends}
use Rattle.bench_answers.specs.RunOrder.{RunOrder}
use Rattle.bench_answers.specs.Placed.{UnlessUnsaved, PlacedAnswer}
use Rattle.micro_cli.specs.declared.answer_files.AnswerFile.{AnswerFile}
use Rattle.micro_cli.specs.Telling.{refuted_line, undecided_line}
use Rattle.micro_cli.specs.Saving.{IsReady, SavesOrCannot}
use Rattle.micro_cli.specs.Searching.{SearchAnswer}

-- the file was saved, and its line is told
pub saved_told : (name bytes line : List ℕ) (s : Status) (old new : ShelfState) → IsWritten old new name bytes → CountsChanges old new 1 1
    → IsSaved old new (file_of name bytes ∷ [])
    → SavesOrCannot (file_of name bytes ∷ []) s line old new s line
saved_told name bytes line s old new written calls saved =
    inr (record {
      saved = saved;
      each_once = record { last_failed = written.last_failed; faults = written.faults; calls = calls };
      no_read = written.only.no_read;
      status_is = refl;
      text_is = refl;
    })

-- the file was not saved, and that is told
pub unsaved_told : (name bytes line : List ℕ) (s : Status) (old new : ShelfState) → IsUnwritten old new name bytes
    → TakesOneUpTo old new 0 → FailedAt old new (file_of name bytes ∷ []) 0
    → SavesOrCannot (file_of name bytes ∷ []) s line old new status.ShelfFault (cannot_save name)
unsaved_told name bytes line s old new unwritten up_to failed =
    inl (record {
      place = 0;
      failed = failed;
      up_to = up_to;
      no_read = unwritten.only.no_read;
      status_is = refl;
      text_is = ap cannot_save (sym unwritten.last_failed);
    })

-- what became of a file that was ready
pub ready_ends : (file : AnswerFile) (name bytes line : List ℕ) (s : Status) (old new : ShelfState) (from to : SinkState)
    (result : Status) → IsReady file name bytes line
    → Ends (SavesOrCannot (file_of (string_bytes file.name) file.text.items ∷ []) s file.told.items old new) from to result
    → Ends (UnlessUnsaved old new (SavesOrCannot (file_of name bytes ∷ []) s line old new)) from to result
ready_ends file name bytes line s old new from to result ready ends =
    let by_name : List ℕ → Type 0 = λ n. Ends (SavesOrCannot (file_of n file.text.items ∷ []) s file.told.items old new) from to result in
    let by_text : List ℕ → Type 0 = λ b. Ends (SavesOrCannot (file_of name b ∷ []) s file.told.items old new) from to result in
    let by_line : List ℕ → Type 0 = λ l. Ends (SavesOrCannot (file_of name bytes ∷ []) s l old new) from to result in
    let named = subst by_name ready.name_is ends in
    let texted = subst by_text ready.text_is named in
    let told = subst by_line ready.told_is texted in
    Ends-map (SavesOrCannot (file_of name bytes ∷ []) s line old new)
    (UnlessUnsaved old new (SavesOrCannot (file_of name bytes ∷ []) s line old new)) (λ t text answer. inr answer) from to result told

-- memory was refused before the file was begun
pub wants_ends : (answer : Status → List ℕ → Type 0) (shelf : ShelfState) (from to : SinkState) (result : Status)
    → Says status.NoMemory no_memory from to result
    → Ends (UnlessUnsaved shelf shelf answer) from to result
wants_ends answer shelf from to result says =
    says_ends (UnlessUnsaved shelf shelf answer) status.NoMemory no_memory from to result
    (inl (record { status_is = refl; text_is = refl; same = refl })) says

-- what became of a placement
pub found_answer : (order : RunOrder) (conflicts : ℕ) (g : Graph) (place : List Position) (old new : ShelfState)
    (s : Status) (text : List ℕ)
    → PlacedAnswer order g place old new s text → SearchAnswer order conflicts g old new s text
found_answer order conflicts g place old new s text (inl wants) = inl wants
found_answer order conflicts g place old new s text (inr placed) = inr (inl (record { place = place; placed = placed }))

-- what became of a refutation
pub refuted_answer : (order : RunOrder) (conflicts count budget : ℕ) (g : Graph) (lines : List Line)
    (old new : ShelfState) → count ≡ length (clauses_of g) → budget ≡ conflicts
    → Refutes (list_of g) lines → length lines ≤ budget + 1 → HasNoPlacement g
    → check (list_of g) (refutation_text (length (clauses_of g)) lines) ≡ checked.Refutes (length lines)
    → length (refutation_text (length (clauses_of g)) lines) ≤ length lines * (12 * (list_of g).vars + 27)
    → length (clauses_of g) + length lines < 2 ^ 32 → (s : Status) (text : List ℕ)
    → UnlessUnsaved old new
    (SavesOrCannot (refuted_files order.out (refutation_text count lines)) status.Refuted (refuted_line (length lines)) old new) s text
    → SearchAnswer order conflicts g old new s text
refuted_answer order conflicts count budget g lines old new counted same refutes few none_legal accepted short numbered
    s text (inl wants) = inl wants
refuted_answer order conflicts count budget g lines old new counted same refutes few none_legal accepted short numbered
    s text (inr answer) =
    let by_count : ℕ → Type 0 =
    λ m. SavesOrCannot (refuted_files order.out (refutation_text m lines)) status.Refuted (refuted_line (length lines)) old new s text in
    inr (inr (inl (record {
      lines = lines;
      refutes = refutes;
      few = omega (arith, few, same);
      none_legal = none_legal;
      accepted = accepted;
      short = short;
      numbered = numbered;
      answer = subst by_count counted answer;
    })))

-- what became of a spent budget
pub undecided_answer : (order : RunOrder) (conflicts count budget : ℕ) (g : Graph) (lines : List Line) (clash : Clash)
    (old new : ShelfState) → count ≡ length (clauses_of g) → budget ≡ conflicts
    → Spent (list_of g) lines clash budget → (s : Status) (text : List ℕ)
    → UnlessUnsaved old new
    (SavesOrCannot (undecided_files order.out (part_text count lines clash)) status.Undecided (undecided_line conflicts) old new) s text
    → SearchAnswer order conflicts g old new s text
undecided_answer order conflicts count budget g lines clash old new counted same spent s text (inl wants) = inl wants
undecided_answer order conflicts count budget g lines clash old new counted same spent s text (inr answer) =
    let by_budget : ℕ → Type 0 = λ b. Spent (list_of g) lines clash b in
    let by_count : ℕ → Type 0 =
    λ m. SavesOrCannot (undecided_files order.out (part_text m lines clash)) status.Undecided (undecided_line conflicts) old new s text in
    inr (inr (inr (record { lines = lines; clash = clash; spent = subst by_budget same spent; answer = subst by_count counted answer })))
