-- How far saving has come, and which files it leaves where it fails.
use Rattle.std.proofs.Common.{ℕ, ◌≡◌, ◌<◌, ◌+◌, List, Option, Some, slice_get, arith, sym, ◌∙◌, subst}
use borrow.Author.Count.{below_more}
use Rattle.io_base.specs.Shelf.{ShelfState, GoesOn, CountsNoRead, CountsChanges, IsTold}
use Rattle.saved_files.specs.SavedFile.{SavedFile}
use Rattle.saved_files.specs.OneFile.{IsPart, IsWritten, IsUnwritten}
use Rattle.saved_files.specs.Saving.{KeepsAllBut, AreWhole, AreApart, FailedAt}
use Rattle.saved_files.proofs.OneFileLemmas.{told_goes_on}
use Rattle.saved_files.proofs.ComposingStates.{goes_on_both, rose_before}

-- the first files were saved
pub record IsSaving (old now : ShelfState) (files : List SavedFile) (count : ℕ) : Type 0 where
  pub goes_on : GoesOn old now
  pub no_read : CountsNoRead old now
  pub last_failed : now.last_failed ≡ old.last_failed
  pub faults : now.faults ≡ old.faults
  pub calls : CountsChanges old now count count
  pub others : KeepsAllBut old now files count
  pub whole : IsTold old → AreWhole now files count

-- calls that were made in two parts were made in all
pub changes_both : (old now new : ShelfState) (a b c d : ℕ) → CountsChanges old now a b → CountsChanges now new c d
    → CountsChanges old new (a + c) (b + d)
changes_both old now new a b c d before after = record {
  creates = omega (arith, before.creates, after.creates);
  appends = omega (arith, before.appends, after.appends);
}

-- a file that was written after the first files is one more of them
pub saving_goes_on : (old now new : ShelfState) (files : List SavedFile) (place : ℕ) (x : SavedFile) (name bytes : List ℕ)
    → AreApart files →
    slice_get files place ≡ Some x → name ≡ x.name → bytes ≡ x.bytes → IsSaving old now files place → IsWritten now new name bytes →
    CountsChanges now new 1 1 → IsSaving old new files (place + 1)
saving_goes_on old now new files place x name bytes apart at is_name is_bytes saving by_name calls = record {
  goes_on = goes_on_both old now new saving.goes_on written.only.goes_on;
  no_read = record {
    taken = written.only.no_read.taken ∙ saving.no_read.taken;
    absent = written.only.no_read.absent
        ∙ saving.no_read.absent;
  };
  last_failed = written.last_failed ∙ saving.last_failed;
  faults = written.faults ∙ saving.faults;
  calls = changes_both old now new place place 1 1 saving.calls calls;
  others = λ other none. written.only.others other (λ e. none place x (omega arith) at (sym e))
      ∙ saving.others other (λ i y less here. none i y (omega (arith, less)) here);
  whole = λ told i y less here. below_more (λ (k : ℕ). (z : SavedFile) → slice_get files k ≡ Some z → new.file z.name ≡ Some z.bytes)
      place (earlier told) (last told) i less y here;
}
  where
    written : IsWritten now new x.name x.bytes
    written = subst (λ (b : List ℕ). IsWritten now new x.name b) is_bytes
        (subst (λ (n : List ℕ). IsWritten now new n bytes) is_name by_name)

    earlier : IsTold old → (k : ℕ) → k < place → (z : SavedFile) → slice_get files k ≡ Some z → new.file z.name ≡ Some z.bytes
    earlier told k less z here = written.only.others z.name (apart k place z x less here at) ∙ saving.whole told k z less here

    last : IsTold old → (z : SavedFile) → slice_get files place ≡ Some z → new.file z.name ≡ Some z.bytes
    last told z here =
        let both : Some x ≡ Some z = sym at ∙ here in
        let is : x ≡ z = cc in
        subst (λ (file : SavedFile). new.file file.name ≡ Some file.bytes) is (written.whole (told_goes_on old now saving.goes_on told))

-- a file that was not written after the first files is where saving failed
pub saving_fails : (old now new : ShelfState) (files : List SavedFile) (place : ℕ) (x : SavedFile) (name bytes : List ℕ)
    → AreApart files →
    slice_get files place ≡ Some x → name ≡ x.name → bytes ≡ x.bytes → IsSaving old now files place → IsUnwritten now new name bytes →
    FailedAt old new files place
saving_fails old now new files place x name bytes apart at is_name is_bytes saving by_name = record {
  failed = x;
  at = at;
  rose = rose_before old.faults now.faults new.faults saving.goes_on.later unwritten.rose;
  last_failed = unwritten.last_failed;
  others = λ other none. unwritten.only.others other (λ e. none place x (omega arith) at (sym e))
      ∙ saving.others other (λ i y less here. none i y (omega (arith, less)) here);
  whole = λ told i y less here. unwritten.only.others y.name (apart i place y x less here at) ∙ saving.whole told i y less here;
  part = λ told. subst (λ (file : Option (List ℕ)). IsPart file (new.file x.name) x.bytes) stays
      (unwritten.part (told_goes_on old now saving.goes_on told));
}
  where
    unwritten : IsUnwritten now new x.name x.bytes
    unwritten = subst (λ (b : List ℕ). IsUnwritten now new x.name b) is_bytes
        (subst (λ (n : List ℕ). IsUnwritten now new n bytes) is_name by_name)

    stays : now.file x.name ≡ old.file x.name
    stays = saving.others x.name (λ i y less here. apart i place y x less here at)
