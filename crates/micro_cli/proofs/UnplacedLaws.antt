-- What each outcome of `make` promises where no placement was found.
use Rattle.std.proofs.Common.{ℕ, zero, suc, ◌≡◌, ◌≢◌, ◌≤◌, ◌<◌, ◌⊎◌, inl, inr, List, [], ◌∷◌, ◌++◌, length, Some, slice_get, IsTrue, refl, sym, ap, ◌∙◌, subst, arith}
use Rattle.io_base.specs.Causes.{Rose}
use Rattle.io_base.specs.Shelf.{ShelfState, GoesOn, IsTold}
use Rattle.io_base.specs.Sink.{SinkState}
use Rattle.flow_graph.specs.Graph.{Graph}
use Rattle.placement_clauses.specs.Clauses.{clauses_of}
use Rattle.ref_text.specs.Text.{refutation_text, part_text}
use Rattle.saved_files.specs.SavedFile.{SavedFile}
use Rattle.saved_files.specs.FileNames.{refutation_name, undecided_name}
use Rattle.saved_files.specs.FilesOfAnswers.{file_of, refuted_files, undecided_files}
use Rattle.saved_files.specs.Saving.{IsSaved}
use Rattle.saved_files.proofs.ComposingStates.{tells_goes_on, same_file}
use Rattle.replies.specs.Ending.{Ends}
use Rattle.replies.specs.declared.status.Status.{Status}
use Rattle.replies.specs.declared.status.Status.TheVariants as status
use Rattle.micro_cli.specs.Telling.{refuted_line, undecided_line}
use Rattle.micro_cli.specs.Saving.{SavesAndTells, SavesOrCannot}
use Rattle.refute_check.specs.declared.checked.Checked.TheVariants as checked
use Rattle.replies.specs.FileStep.{CannotRead}
use Rattle.replies.specs.SourceStep.{source_limit}
use Rattle.micro_cli.specs.Accepted.{Holds, IsAccepted}
use Rattle.micro_cli.specs.CheckerText.{TellsAnswer}
use Rattle.micro_cli.specs.Checking.{RefutationReply, CheckReply}
use Rattle.micro_cli.specs.Making.{MakeAnswer}
use Rattle.micro_cli.specs.Headline.{Writes, IsRefuted, IsUndecided}
use Rattle.micro_cli.proofs.AcceptedInputs.{RefusesOrFails, inputs_status, source_unread, source_read, starts_accepted, starts_same}
use Rattle.micro_cli.proofs.MakeOutcomes.{Start, Found, Refuted, Undecided, Outcome, lacks_inputs, lacks_memory, lacks_file, found, refuted, undecided, outcome_of, Wrote, ends_wrote}
use Rattle.micro_cli.specs.declared.command_words.TheConstants.{CONFLICT_LIMIT}
use Rattle.micro_asm.proofs.FewInstrs.{few_instrs}
use Rattle.micro_cli.proofs.ShortRefutation.{short_refutation}
use Rattle.micro_cli.proofs.AcceptedLemmas.{accepted}
use Rattle.micro_cli.proofs.RunAfter.{RunsOrFails}
use Rattle.micro_cli.proofs.MakeLaws.{told_start, found_runs}

-- ---- statuses differ

abbrev IsRefusal : Status → Type 0
IsRefusal status.Refuted = Unit {0}
IsRefusal s = ⊥

abbrev IsSpent : Status → Type 0
IsSpent status.Undecided = Unit {0}
IsSpent s = ⊥

-- ---- the one file of a search that found no placement

-- all files of other names stay
only_file : (name bytes : List ℕ) (old new : ShelfState) → IsSaved old new (file_of name bytes ∷ []) → (other : List ℕ) → other ≢ name
    → new.file other ≡ old.file other
only_file name bytes old new saved other differs = saved.others other none
  where
    none : (i : ℕ) (x : SavedFile) → i < 1 → slice_get (file_of name bytes ∷ []) i ≡ Some x → x.name ≢ other
    none zero x less at same = let is : x ≡ file_of name bytes = cc in differs (sym same ∙ ap (λ (f : SavedFile). f.name) is)
    none (suc i) x less at same = omega (arith, less)

started_file : (src script : List ℕ) (old new : ShelfState) (start : Start src script old) (name bytes : List ℕ)
    → IsSaved start.mid new (file_of name bytes ∷ [])
    → (other : List ℕ) → other ≢ name → new.file other ≡ old.file other
started_file src script old new start name bytes saved other differs =
    only_file name bytes start.mid new saved other differs
    ∙ same_file old start.mid other (starts_same src script old start.mid start.g start.bytes start.starts)

-- ---- refutations

refuted_made : (src script out : List ℕ) (conflicts : ℕ) (old new : ShelfState) (before after : SinkState) (s : Status) (text : List ℕ)
    → IsTold old → Writes before after text
    → (r : Refuted src script out conflicts old new s text)
    → SavesAndTells (refuted_files out (refutation_text (length (clauses_of r.start.g)) r.answer.lines)) status.Refuted
    (refuted_line (length r.answer.lines)) r.start.mid new s text
    → IsRefuted src script out conflicts old new before after
refuted_made src script out conflicts old new before after s text told written r saved = record {
  g = r.start.g;
  bytes = r.start.bytes;
  said = r.start.starts.read.said;
  accepted = accepted;
  lines = r.answer.lines;
  refutes = r.answer.refutes;
  few = r.answer.few;
  saved = saved.saved.whole (told_start src script old r.start told) 0
      (file_of (refutation_name out) (refutation_text (length (clauses_of r.start.g)) r.answer.lines)) (omega arith) refl;
  others = started_file src script old new r.start (refutation_name out) (refutation_text (length (clauses_of r.start.g)) r.answer.lines)
      saved.saved;
  written = written ∙ ap (λ (t : List ℕ). before.bytes ++ t) saved.text_is;
  checked_by = r.answer.accepted;
  numbered = r.answer.numbered;
  short = λ budget. short_refutation accepted.source r.start.g (length r.answer.lines) conflicts
      (length (refutation_text (length (clauses_of r.start.g)) r.answer.lines)) accepted.meant r.answer.few r.answer.short budget;
  none_legal = r.answer.none_legal;
}
  where
    accepted : IsAccepted src script old.file r.start.g r.start.bytes r.start.starts.read.said
    accepted = starts_accepted src script old r.start.mid r.start.g r.start.bytes told.tells r.start.starts

pub refuted_stands : (src script out : List ℕ) (clocks conflicts : ℕ) (old new : ShelfState) (before after : SinkState) (s : Status)
    → IsTold old → IsTrue before.tells → s ≡ status.Refuted
    → Ends (MakeAnswer src script out clocks conflicts old new) before after s → IsRefuted src script out conflicts old new before after
refuted_stands src script out clocks conflicts old new before after s told tells is ends =
    go (outcome_of src script out clocks conflicts old new s wrote.text wrote.is)
  where
    no_fault : s ≡ status.SinkFault → ⊥
    no_fault fault = subst IsRefusal (sym is ∙ fault) tt

    wrote : Wrote (MakeAnswer src script out clocks conflicts old new) before after s
    wrote = ends_wrote (MakeAnswer src script out clocks conflicts old new) before after s tells no_fault ends

    not_had : RefusesOrFails s → IsRefuted src script out conflicts old new before after
    not_had (inl refuses) = absurd (subst IsRefusal (sym is ∙ refuses) tt)
    not_had (inr fails) = absurd (subst IsRefusal (sym is ∙ fails) tt)

    not_run : (f : Found src script out clocks old new s wrote.text)
        → RunsOrFails f.all.after.file out script f.start.bytes clocks s wrote.text
        → IsRefuted src script out conflicts old new before after
    not_run f (inl refused) = absurd (subst IsRefusal (sym is ∙ refused.status_is) tt)
    not_run f (inr (inl done_run)) = absurd (subst IsRefusal (sym is ∙ done_run.status_is) tt)
    not_run f (inr (inr fails)) = absurd (subst IsRefusal (sym is ∙ fails) tt)

    saved : (r : Refuted src script out conflicts old new s wrote.text)
        → SavesOrCannot (refuted_files out (refutation_text (length (clauses_of r.start.g)) r.answer.lines)) status.Refuted
        (refuted_line (length r.answer.lines)) r.start.mid new s wrote.text → IsRefuted src script out conflicts old new before after
    saved r (inl cannot) = absurd (subst IsRefusal (sym is ∙ cannot.status_is) tt)
    saved r (inr tells_it) = refuted_made src script out conflicts old new before after s wrote.text told wrote.written r tells_it

    go : Outcome src script out clocks conflicts old new s wrote.text → IsRefuted src script out conflicts old new before after
    go (lacks_inputs lacks) = not_had (inputs_status src script old new s wrote.text lacks.reply)
    go (lacks_memory wants) = absurd (subst IsRefusal (sym is ∙ wants) tt)
    go (lacks_file lacks) = absurd (subst IsRefusal (sym is ∙ lacks.status_is) tt)
    go (found f) = not_run f (found_runs src script out clocks old new s wrote.text told.tells f)
    go (refuted r) = saved r r.answer.answer
    go (undecided u) = absurd (subst IsRefusal (sym is ∙ u.status_is) tt)

-- the check of a saved refutation is done, unless a fault is counted
pub refuted_checks : (src script out : List ℕ) (conflicts : ℕ) (old new start end : ShelfState) (before after : SinkState) (t : Status)
    (text : List ℕ)
    → IsRefuted src script out conflicts old new before after → conflicts ≤ CONFLICT_LIMIT → src ≢ refutation_name out → IsTrue start.tells
    → start.file ≡ new.file
    → CheckReply src (refutation_name out) start end t text → (t ≡ status.Done) ⊎ Rose start.faults end.faults
refuted_checks src script out conflicts old new start end before after t text r budget differs tells same reply = go reply
  where
    held : Holds start.file src source_limit r.accepted.source
    held = record {
      there = same_file new start src same ∙ r.others src differs ∙ r.accepted.source_held.there;
      fits = r.accepted.source_held.fits;
    }

    checked_reply : (mid : ShelfState) → GoesOn start mid → mid.file ≡ start.file
        → RefutationReply (refutation_name out) r.g mid end t text → (t ≡ status.Done) ⊎ Rose start.faults end.faults
    checked_reply mid goes_on kept told =
        by (accepted (refutation_name out) r.g r.lines mid end t text (tells_goes_on start mid goes_on tells)
        (same_file start mid (refutation_name out) kept ∙ same_file new start (refutation_name out) same ∙ r.saved)
        (omega (arith, r.short budget)) r.refutes
        (omega (arith, few_instrs r.accepted.source r.g r.accepted.meant)) r.numbered told)
      where
        by : TellsAnswer (checked.Refutes (length r.lines)) t text ⊎ CannotRead (refutation_name out) mid end t text
            → (t ≡ status.Done) ⊎ Rose start.faults end.faults
        by (inl answer) = inl answer.status_is
        by (inr unread) = inr (omega (arith, goes_on.later, unread.rose))

    go : CheckReply src (refutation_name out) start end t text → (t ≡ status.Done) ⊎ Rose start.faults end.faults
    go (inl source) = inr (source_unread src start end r.accepted.source r.g t text tells held r.accepted.meant source).rose
    go (inr checks) =
        let P : Graph → Type 0 = λ g. RefutationReply (refutation_name out) g checks.mid end t text in
        let is = source_read src start checks.mid r.accepted.source r.g checks.g tells held r.accepted.meant checks.source in
        checked_reply checks.mid checks.source.file.goes_on checks.source.file.same (subst P is checks.reply)

-- ---- spent budgets

undecided_made : (src script out : List ℕ) (conflicts : ℕ) (old new : ShelfState) (before after : SinkState) (s : Status) (text : List ℕ)
    → IsTold old → Writes before after text
    → (u : Undecided src script out conflicts old new s text)
    → SavesAndTells (undecided_files out (part_text (length (clauses_of u.start.g)) u.answer.lines u.answer.clash)) status.Undecided
    (undecided_line conflicts) u.start.mid new s text
    → IsUndecided src script out conflicts old new before after
undecided_made src script out conflicts old new before after s text told written u saved = record {
  g = u.start.g;
  bytes = u.start.bytes;
  said = u.start.starts.read.said;
  accepted = starts_accepted src script old u.start.mid u.start.g u.start.bytes told.tells u.start.starts;
  lines = u.answer.lines;
  clash = u.answer.clash;
  spent = u.answer.spent;
  saved = saved.saved.whole (told_start src script old u.start told) 0
      (file_of (undecided_name out) (part_text (length (clauses_of u.start.g)) u.answer.lines u.answer.clash)) (omega arith) refl;
  others = started_file src script old new u.start (undecided_name out)
      (part_text (length (clauses_of u.start.g)) u.answer.lines u.answer.clash) saved.saved;
  written = written ∙ ap (λ (t : List ℕ). before.bytes ++ t) saved.text_is;
}

pub undecided_stands : (src script out : List ℕ) (clocks conflicts : ℕ) (old new : ShelfState) (before after : SinkState) (s : Status)
    → IsTold old → IsTrue before.tells → s ≡ status.Undecided
    → Ends (MakeAnswer src script out clocks conflicts old new) before after s → IsUndecided src script out conflicts old new before after
undecided_stands src script out clocks conflicts old new before after s told tells is ends =
    go (outcome_of src script out clocks conflicts old new s wrote.text wrote.is)
  where
    no_fault : s ≡ status.SinkFault → ⊥
    no_fault fault = subst IsSpent (sym is ∙ fault) tt

    wrote : Wrote (MakeAnswer src script out clocks conflicts old new) before after s
    wrote = ends_wrote (MakeAnswer src script out clocks conflicts old new) before after s tells no_fault ends

    not_had : RefusesOrFails s → IsUndecided src script out conflicts old new before after
    not_had (inl refuses) = absurd (subst IsSpent (sym is ∙ refuses) tt)
    not_had (inr fails) = absurd (subst IsSpent (sym is ∙ fails) tt)

    not_run : (f : Found src script out clocks old new s wrote.text)
        → RunsOrFails f.all.after.file out script f.start.bytes clocks s wrote.text
        → IsUndecided src script out conflicts old new before after
    not_run f (inl refused) = absurd (subst IsSpent (sym is ∙ refused.status_is) tt)
    not_run f (inr (inl done_run)) = absurd (subst IsSpent (sym is ∙ done_run.status_is) tt)
    not_run f (inr (inr fails)) = absurd (subst IsSpent (sym is ∙ fails) tt)

    saved : (u : Undecided src script out conflicts old new s wrote.text)
        → SavesOrCannot (undecided_files out (part_text (length (clauses_of u.start.g)) u.answer.lines u.answer.clash)) status.Undecided
        (undecided_line conflicts) u.start.mid new s wrote.text → IsUndecided src script out conflicts old new before after
    saved u (inl cannot) = absurd (subst IsSpent (sym is ∙ cannot.status_is) tt)
    saved u (inr tells_it) = undecided_made src script out conflicts old new before after s wrote.text told wrote.written u tells_it

    go : Outcome src script out clocks conflicts old new s wrote.text → IsUndecided src script out conflicts old new before after
    go (lacks_inputs lacks) = not_had (inputs_status src script old new s wrote.text lacks.reply)
    go (lacks_memory wants) = absurd (subst IsSpent (sym is ∙ wants) tt)
    go (lacks_file lacks) = absurd (subst IsSpent (sym is ∙ lacks.status_is) tt)
    go (found f) = not_run f (found_runs src script out clocks old new s wrote.text told.tells f)
    go (refuted r) = absurd (subst IsSpent (sym is ∙ r.status_is) tt)
    go (undecided u) = saved u u.answer.answer
