-- What a shelf in memory means.
use Rattle.std.specs.Prelude.{◌≡◌, ◌≢◌, ◌⊎◌, ◌/◌, ℕ, List, length, take, true}
use Rattle.io_base.specs.declared.mem_shelf.CallKind.{CallKind}
use Rattle.io_base.specs.declared.mem_shelf.CallKind.TheVariants.{Read, Create, Append}
use Rattle.io_base.specs.declared.mem_shelf.MemShelf.{MemShelf}
use Rattle.io_base.specs.Calls.{Calls, CountsCall}
use Rattle.io_base.specs.MemFiles.{file_in}
use Rattle.io_base.specs.Shelf.{ShelfState, Appends}
use Rattle.io_base.specs.ShelfCounts.{shelf_with}

-- what it means as a shelf: it tells its files and is honest
abbrev pub shelf_of : MemShelf → ShelfState
shelf_of shelf = shelf_with shelf.counts true true (file_in shelf.files)

-- its calls of a kind
abbrev pub calls_of : MemShelf → CallKind → Calls
calls_of shelf Read = shelf.reads
calls_of shelf Create = shelf.creates
calls_of shelf Append = shelf.appends

-- how many bytes a read gives at most
abbrev pub piece_of : MemShelf → ℕ
piece_of shelf = shelf.piece

-- one more call of the kind was made, and none of another kind
pub record CountsCallOf (old new : MemShelf) (kind : CallKind) : Type 0 where
  pub called : CountsCall (calls_of old kind) (calls_of new kind)
  pub others : (other : CallKind) → other ≢ kind → calls_of new other ≡ calls_of old other

-- what a failing append leaves: the first half of the piece, rounded down, or for want of memory no change
abbrev pub AppendsHalf : MemShelf → MemShelf → List ℕ → List ℕ → Type 0
AppendsHalf old new name piece =
    ((shelf_of new).file name ≡ (shelf_of old).file name)
    ⊎ Appends (shelf_of old) (shelf_of new) name (take (length piece / 2) piece)
