use Rattle.std.proofs.Common.{◌≡◌, Some, length, refl, arith, slice_get}
use Rattle.std.proofs.lemmas.Option.{slice_get_read}
use Rattle.saved_files.proofs.SavingLemmas.{saving_goes_on, saving_fails}
use Rattle.saved_files.proofs.saving.save_all.Goals as goal

pub returns-in-Err-clause-err : goal.returns-in-Err-clause-err
returns-in-Err-clause-err g c =
    let files = c.args.files.now in
    let file = c.index-files-place.result in
    let at : slice_get files c.loop-place.place ≡ Some file =
    slice_get_read files (length files) c.loop-place.place file refl (omega arith) c.index-files-place.is in
    saving_fails (g.S.Shelf.state c.args.shelf.now) (g.S.Shelf.state c.loop-place.shelf) (g.S.Shelf.state c.save_file.new.shelf)
    files c.loop-place.place file
    c.name.result.now c.bytes.result.now c.requires.apart at c.name.ensures c.bytes.ensures c.loop-place.invariant c.in-Err.ensures.err

pub loop-place-preserved : goal.loop-place-preserved
loop-place-preserved g c =
    let files = c.args.files.now in
    let file = c.index-files-place.result in
    let at : slice_get files c.loop-place.place ≡ Some file =
    slice_get_read files (length files) c.loop-place.place file refl (omega arith) c.index-files-place.is in
    saving_goes_on (g.S.Shelf.state c.args.shelf.now) (g.S.Shelf.state c.loop-place.shelf) (g.S.Shelf.state c.save_file.new.shelf)
    files c.loop-place.place file
    c.name.result.now c.bytes.result.now c.requires.apart at c.name.ensures c.bytes.ensures c.loop-place.invariant c.in-Ok.ensures.ok
    c.in-Ok.ensures.calls
