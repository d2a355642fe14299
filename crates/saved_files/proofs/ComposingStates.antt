-- What was said of saving between two states holds between an earlier and a later one, where no file changed between.
use Rattle.std.proofs.Common.{ℕ, ◌≡◌, ◌≤◌, List, Option, IsTrue, refl, arith, sym, ap, ◌∙◌, subst}
use Rattle.io_base.specs.Causes.{Rose}
use Rattle.io_base.specs.Shelf.{ShelfState, GoesOn, CountsNoChange}
use Rattle.saved_files.specs.SavedFile.{SavedFile}
use Rattle.saved_files.specs.OneFile.{IsPart}
use Rattle.saved_files.specs.Saving.{FailedAt, IsSaved}
use Rattle.saved_files.proofs.OneFileLemmas.{told_goes_on}

-- a count that rose from a later state on rose from an earlier one
pub rose_before : (a b c : ℕ) → a ≤ b → Rose b c → Rose a c
rose_before a b c earlier rose = omega (arith, earlier, rose)

pub goes_on_same : (shelf : ShelfState) → GoesOn shelf shelf
goes_on_same shelf = record {
  later = omega arith;
  taken = omega arith;
  absent = omega arith;
  creates = omega arith;
  appends = omega arith;
  tells = refl;
  honest = refl;
}

pub goes_on_both : (start old new : ShelfState) → GoesOn start old → GoesOn old new → GoesOn start new
goes_on_both start old new before after = record {
  later = omega (arith, before.later, after.later);
  taken = omega (arith, before.taken, after.taken);
  absent = omega (arith, before.absent, after.absent);
  creates = omega (arith, before.creates, after.creates);
  appends = omega (arith, before.appends, after.appends);
  tells = after.tells ∙ before.tells;
  honest = after.honest ∙ before.honest;
}

pub no_change_same : (shelf : ShelfState) → CountsNoChange shelf shelf
no_change_same shelf = record { creates = refl; appends = refl }

pub no_change_both : (start old new : ShelfState) → CountsNoChange start old → CountsNoChange old new → CountsNoChange start new
no_change_both start old new before after = record {
  creates = after.creates ∙ before.creates;
  appends = after.appends ∙ before.appends;
}

-- a shelf that told its files stays so
pub tells_goes_on : (old new : ShelfState) → GoesOn old new → IsTrue old.tells → IsTrue new.tells
tells_goes_on old new goes_on tells = subst IsTrue (sym goes_on.tells) tells

-- the file of a name, where no file changed
pub same_file : (old new : ShelfState) (name : List ℕ) → new.file ≡ old.file → new.file name ≡ old.file name
same_file old new name same = ap (λ (file : List ℕ → Option (List ℕ)). file name) same

-- files that were saved were saved from an earlier state on, and stay so up to a later one
pub saved_between : (start old mid new : ShelfState) (files : List SavedFile) → GoesOn start old → old.file ≡ start.file
    → new.file ≡ mid.file →
    IsSaved old mid files → IsSaved start new files
saved_between start old mid new files goes_on same_before same_after saved = record {
  others = λ name none. same_file mid new name same_after ∙ saved.others name none ∙ same_file start old name same_before;
  whole = λ told i x less at. same_file mid new x.name same_after ∙ saved.whole (told_goes_on start old goes_on told) i x less at;
}

-- a save that failed failed from an earlier state on
pub failed_before : (start old new : ShelfState) (files : List SavedFile) (place : ℕ) → GoesOn start old → old.file ≡ start.file →
    FailedAt old new files place → FailedAt start new files place
failed_before start old new files place goes_on same failure =
    let P : (List ℕ → Option (List ℕ))
    → Type 0 = λ file. IsPart (file failure.failed.name) (new.file failure.failed.name) failure.failed.bytes in
    record {
      failed = failure.failed;
      at = failure.at;
      rose = rose_before start.faults old.faults new.faults goes_on.later failure.rose;
      last_failed = failure.last_failed;
      others = λ name none. failure.others name none ∙ same_file start old name same;
      whole = λ told. failure.whole (told_goes_on start old goes_on told);
      part = λ told. subst P same (failure.part (told_goes_on start old goes_on told));
    }
