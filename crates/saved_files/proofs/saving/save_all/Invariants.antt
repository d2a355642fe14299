use Rattle.saved_files.proofs.SavingLemmas.{IsSaving}
use Rattle.saved_files.proofs.saving.save_all.Given as goal

-- the files before this place were saved
abbrev pub invariant-loop-place : goal.invariant-loop-place
invariant-loop-place g l = IsSaving (g.S.Shelf.state l.initial.shelf) (g.S.Shelf.state l.shelf) l.files l.place
