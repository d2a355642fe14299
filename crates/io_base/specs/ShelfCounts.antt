-- What a shelf counts, apart from its files.
use Rattle.std.specs.Prelude.{ℕ, List, Option, None, Bool, false}
use Rattle.io_base.specs.Shelf.{ShelfState}

-- the faults with the name of the last one, the bytes that reads gave, the reads of names that are not there, and the
-- calls of create and of append
pub record Counts : Type 0 where
  pub faults : ℕ
  pub last_failed : List ℕ
  pub taken : ℕ
  pub absent : ℕ
  pub creates : ℕ
  pub appends : ℕ

-- a shelf with these counts and these files
abbrev pub shelf_with : Counts → Bool → Bool → (List ℕ → Option (List ℕ)) → ShelfState
shelf_with counts tells honest file = record {
  faults = counts.faults;
  last_failed = counts.last_failed;
  taken = counts.taken;
  absent = counts.absent;
  creates = counts.creates;
  appends = counts.appends;
  tells = tells;
  honest = honest;
  file = file;
}

-- a shelf with these counts that tells nothing of its files and is not known to be honest
abbrev pub untold_shelf : Counts → ShelfState
untold_shelf counts = shelf_with counts false false (λ _. None)
