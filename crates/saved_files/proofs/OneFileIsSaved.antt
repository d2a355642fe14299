-- A file that was written by itself is a list of one file that was saved, so the words of lists serve both.
use Rattle.std.proofs.Common.{ℕ, ◌≡◌, List, [], ◌∷◌, Some, refl, arith, sym, suc, zero, subst}
use Rattle.io_base.specs.Shelf.{ShelfState}
use Rattle.saved_files.specs.SavedFile.{SavedFile}
use Rattle.saved_files.specs.FilesOfAnswers.{file_of}
use Rattle.saved_files.specs.OneFile.{IsWritten, IsUnwritten}
use Rattle.saved_files.specs.Saving.{AreWhole, FailedAt, IsSaved}

-- the one file of a list that is whole
whole_alone : (now : ShelfState) (name text : List ℕ) → now.file name ≡ Some text → AreWhole now (file_of name text ∷ []) 1
whole_alone now name text whole zero x less at =
    let is : file_of name text ≡ x = cc in
    subst (λ (file : SavedFile). now.file file.name ≡ Some file.bytes) is whole
whole_alone now name text whole (suc i) x less at = let none : ⊥ = omega (arith, less) in absurd none

pub written_is_saved : (old new : ShelfState) (name text : List ℕ) → IsWritten old new name text
    → IsSaved old new (file_of name text ∷ [])
written_is_saved old new name text written = record {
  others = λ other none. written.only.others other (λ e. none 0 (file_of name text) (omega arith) refl (sym e));
  whole = λ told. whole_alone new name text (written.whole told);
}

pub unwritten_fails : (old new : ShelfState) (name text : List ℕ) → IsUnwritten old new name text
    → FailedAt old new (file_of name text ∷ []) 0
unwritten_fails old new name text unwritten = record {
  failed = file_of name text;
  at = refl;
  rose = unwritten.rose;
  last_failed = unwritten.last_failed;
  others = λ other none. unwritten.only.others other (λ e. none 0 (file_of name text) (omega arith) refl (sym e));
  whole = λ told i x less at. let none : ⊥ = omega (arith, less) in absurd none;
  part = unwritten.part;
}
