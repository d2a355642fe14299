use Rattle.std.proofs.Common.{◌∙◌, refl}
use Rattle.saved_files.proofs.ComposingStates.{goes_on_same, goes_on_both, no_change_same, no_change_both}
use Rattle.prom_files.proofs.ImageSteps.{HasImages-none, HasImages-push, ImagesReply-stop}
use Rattle.prom_files.proofs.images_step.load_images.Goals as goal

pub loop-number-init : goal.loop-number-init
loop-number-init g c = record {
  had = HasImages-none c.args.out.now c.args.bits (g.S.Shelf.state c.args.shelf.now) _ c.new-images.ensures.items;
  same = refl;
  no_change = no_change_same (g.S.Shelf.state c.args.shelf.now);
  goes_on = goes_on_same (g.S.Shelf.state c.args.shelf.now);
}

pub loop-number-preserved : goal.loop-number-preserved
loop-number-preserved g c = record {
  had =
      rw c.in-Ok-push.ensures.items
      (HasImages-push c.args.out.now c.args.bits c.loop-number.number (g.S.Shelf.state c.args.shelf.now)
      (g.S.Shelf.state c.loop-number.shelf) (g.S.Shelf.state c.load_numbered.new.shelf) c.loop-number.images.items c.in-Ok.image
      c.loop-number.invariant.had c.in-Ok.ensures.step);
  same = c.in-Ok.ensures.same ∙ c.loop-number.invariant.same;
  no_change = no_change_both (g.S.Shelf.state c.args.shelf.now) (g.S.Shelf.state c.loop-number.shelf)
      (g.S.Shelf.state c.load_numbered.new.shelf) c.loop-number.invariant.no_change c.in-Ok.ensures.no_change;
  goes_on = goes_on_both (g.S.Shelf.state c.args.shelf.now) (g.S.Shelf.state c.loop-number.shelf)
      (g.S.Shelf.state c.load_numbered.new.shelf) c.loop-number.invariant.goes_on c.in-Ok.ensures.goes_on;
}

pub returns-in-Err-clause-step : goal.returns-in-Err-clause-step
returns-in-Err-clause-step g c =
    ImagesReply-stop c.args.out.now c.args.bits c.args.count c.loop-number.number (g.S.Shelf.state c.args.shelf.now)
    (g.S.Shelf.state c.loop-number.shelf) (g.S.Shelf.state c.load_numbered.new.shelf) c.loop-number.images.items
    c.loop-number-test.true c.loop-number.invariant.had c.in-Err.stop c.in-Err.ensures.step
