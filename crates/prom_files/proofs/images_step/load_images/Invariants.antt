use Rattle.std.proofs.Common.{◌≡◌}
use Rattle.io_base.specs.Shelf.{GoesOn, CountsNoChange}
use Rattle.prom_files.specs.ImagesStep.{HasImages}
use Rattle.prom_files.proofs.images_step.load_images.Given as goal

-- the images so far are had, and how the shelf is left
abbrev pub invariant-loop-number : goal.invariant-loop-number
invariant-loop-number g l = record {
  had : HasImages l.out l.bits l.number (g.S.Shelf.state l.initial.shelf) (g.S.Shelf.state l.shelf) l.images.items;
  same : (g.S.Shelf.state l.shelf).file ≡ (g.S.Shelf.state l.initial.shelf).file;
  no_change : CountsNoChange (g.S.Shelf.state l.initial.shelf) (g.S.Shelf.state l.shelf);
  goes_on : GoesOn (g.S.Shelf.state l.initial.shelf) (g.S.Shelf.state l.shelf);
}
