-- What stands in a file as it is begun and grown.
use Rattle.std.proofs.Common.{ℕ, ◌≡◌, ◌⊎◌, inl, inr, ◌+◌, ◌++◌, List, length, take, drop, Option, Some, IsTrue, arith, sym, ap, ◌∙◌, subst, append_assoc}
use Rattle.std.proofs.Math.Seq.{take-append_seam, take-append-add}
use Rattle.std.proofs.lemmas.List.{take-append-drop}
use Rattle.io_base.specs.Causes.{Rose}
use Rattle.io_base.specs.Shelf.{ShelfState, GoesOn, IsTold, bytes_or_empty}
use Rattle.saved_files.specs.OneFile.{IsPart, WritesOnly, IsWritten, IsUnwritten}

-- a shelf that was told stays so
pub told_goes_on : (old new : ShelfState) → GoesOn old new → IsTold old → IsTold new
told_goes_on old new goes_on told = record {
  tells = subst IsTrue (sym goes_on.tells) told.tells;
  honest = subst IsTrue (sym goes_on.honest) told.honest;
}

-- what was written of one file and then of the same file
pub writes_only_both : (start now new : ShelfState) (name : List ℕ) → WritesOnly start now name → WritesOnly now new name
    → WritesOnly start new name
writes_only_both start now new name before after = record {
  goes_on = record {
    later = omega (arith, before.goes_on.later, after.goes_on.later);
    taken = omega (arith, before.goes_on.taken, after.goes_on.taken);
    absent = omega (arith, before.goes_on.absent, after.goes_on.absent);
    creates = omega (arith, before.goes_on.creates, after.goes_on.creates);
    appends = omega (arith, before.goes_on.appends, after.goes_on.appends);
    tells = after.goes_on.tells ∙ before.goes_on.tells;
    honest = after.goes_on.honest ∙ before.goes_on.honest;
  };
  no_read = record { taken = after.no_read.taken ∙ before.no_read.taken; absent = after.no_read.absent ∙ before.no_read.absent };
  others = λ other differs. after.others other differs ∙ before.others other differs;
}

-- a prefix of a text is one of a longer text too
longer_prefix : (text more : List ℕ) (n : ℕ) → (k : ℕ) × (take n text ≡ take k (text ++ more))
longer_prefix text more n =
    let both : take n text ++ (drop n text ++ more) ≡ text ++ more = sym (append_assoc (take n text) (drop n text) more)
    ∙ ap (λ (front : List ℕ). front ++ more) (take-append-drop n text) in
    (length (take n text), sym (ap (take (length (take n text))) (sym both) ∙ take-append_seam (take n text) (drop n text ++ more)))

pub part_of_longer : (old new : Option (List ℕ)) (text more : List ℕ) → IsPart old new text → IsPart old new (text ++ more)
part_of_longer old new text more (inl same) = inl same
part_of_longer old new text more (inr (n, is)) =
    let longer = longer_prefix text more n in
    inr (longer.0, is ∙ ap Some longer.1)

-- a text that was not written is no part of a longer one either
pub unwritten_longer : (start now : ShelfState) (name text more : List ℕ) → IsUnwritten start now name text
    → IsUnwritten start now name (text ++ more)
unwritten_longer start now name text more unwritten = record {
  only = unwritten.only;
  rose = unwritten.rose;
  last_failed = unwritten.last_failed;
  part = λ told. part_of_longer (start.file name) (now.file name) text more (unwritten.part told);
}

-- the whole text and a prefix of the next piece
part_grown : (old now new : Option (List ℕ)) (text piece : List ℕ) → now ≡ Some text →
    (new ≡ now) ⊎ ((n : ℕ) × (new ≡ Some (bytes_or_empty now ++ take n piece))) → IsPart old new (text ++ piece)
part_grown old now new text piece whole (inl same) =
    inr (length text, same ∙ whole ∙ ap Some (sym (take-append_seam text piece)))
part_grown old now new text piece whole (inr (n, is)) =
    inr (
      length text + n,
      is ∙ ap (λ (front : List ℕ). Some (front ++ take n piece)) (ap bytes_or_empty whole)
          ∙ ap Some (sym (take-append-add text piece n)),
    )

-- an append failed after this text was written
pub unwritten_grown : (start now new : ShelfState) (name text piece : List ℕ) → IsWritten start now name text → WritesOnly now new name →
    Rose now.faults new.faults → new.last_failed ≡ name →
    (IsTold now → (new.file name ≡ now.file name) ⊎ ((n : ℕ) × (new.file name ≡ Some (bytes_or_empty (now.file name) ++ take n piece)))) →
    IsUnwritten start new name (text ++ piece)
unwritten_grown start now new name text piece written only rose named prefix = record {
  only = writes_only_both start now new name written.only only;
  rose = omega (arith, rose, written.only.goes_on.later);
  last_failed = named;
  part = λ told. part_grown (start.file name) (now.file name) (new.file name) text piece (written.whole told)
      (prefix (told_goes_on start now written.only.goes_on told));
}
