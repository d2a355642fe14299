use Rattle.std.proofs.Common.{ℕ, ◌≡◌, ◌≤◌, List, Some, length, refl, sym, ap, ◌∙◌, subst, slice_get}
use Rattle.std.proofs.lemmas.Option.{slice_get_read}
use Rattle.saved_files.specs.SavedFile.{SavedFile}
use Rattle.saved_files.specs.Unsaved.{cannot_save}
use Rattle.replies.specs.Ending.{Says}
use Rattle.replies.specs.declared.status.Status.TheVariants as status
use Rattle.bench_answers.proofs.placed_runs.tell_unsaved.Goals as goal

pub say_unsaved-requires-clause-short : goal.say_unsaved-requires-clause-short
say_unsaved-requires-clause-short g c =
    let files = c.args.files.now in
    let file = c.index-files-place.result in
    let at : slice_get files c.args.place ≡ Some file =
    slice_get_read files (length files) c.args.place file refl c.requires.place c.index-files-place.is in
    subst (λ (name : List ℕ). length name ≤ 220) (sym c.name.ensures) (c.requires.short c.args.place file at)

pub returns-clause-says : goal.returns-clause-says
returns-clause-says g c = λ file at.
    let files = c.args.files.now in
    let read = c.index-files-place.result in
    let read_at : slice_get files c.args.place ≡ Some read =
    slice_get_read files (length files) c.args.place read refl c.requires.place c.index-files-place.is in
    let both : Some read ≡ Some file = sym read_at ∙ at in
    let same : read ≡ file = cc in
    let text : c.deref.result.now ≡ cannot_save file.name = c.deref.ensures.value ∙ c.say_unsaved.ensures
    ∙ ap cannot_save (c.name.ensures ∙ ap (λ (x : SavedFile). x.name) same) in
    subst (λ (t : List ℕ). Says status.ShelfFault t (g.K.Sink.state c.args.out.now) (g.K.Sink.state c.say.new.out) c.say.result)
    text c.say.ensures.says
