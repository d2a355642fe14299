use Rattle.std.proofs.Common.{◌++◌, ◌∷◌, [], take}
use Rattle.std.specs.Prelude.{flat_map, decimal}
use Rattle.saved_files.specs.OneFile.{IsWritten}
use Rattle.saving_tests.proofs.files.growing.save_numbers.Given as goal

-- the file holds the lines of the numbers so far
abbrev pub invariant-loop-number : goal.invariant-loop-number
invariant-loop-number g l = IsWritten (g.S.Shelf.state l.fn.shelf) (g.S.Shelf.state l.shelf) l.name
    (flat_map (λ number. decimal number ++ 10 ∷ []) (take l.number-index l.numbers))
