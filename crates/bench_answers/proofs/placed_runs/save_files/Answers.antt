use Rattle.std.proofs.Common.{◌+◌, inl, refl}
use Rattle.std.proofs.lemmas.Option.{slice_get_within}
use Rattle.saved_files.specs.Unsaved.{cannot_save}
use Rattle.replies.specs.Texts.{no_memory}
use Rattle.replies.specs.declared.status.Status.TheVariants as status
use Rattle.replies.proofs.Stopping.{Ends-map, says_ends}
use Rattle.bench_answers.specs.RunOrder.{order_of}
use Rattle.bench_answers.specs.ReadingBack.{BackReply, MayRun, OrWants}
use Rattle.bench_answers.specs.Placed.{FilesAnswer, UnlessUnsaved}
use Rattle.bench_answers.proofs.Replying.{saved_ends, unsaved_ends, keeps_all}
use Rattle.bench_answers.proofs.placed_runs.save_files.Goals as goal

pub returns-in-Err-clause-ends : goal.returns-in-Err-clause-ends
returns-in-Err-clause-ends g c =
    let asked = c.args.asked in
    let old = g.S.Shelf.state c.args.shelf.now in
    says_ends (UnlessUnsaved old old (FilesAnswer (order_of asked c.args.bytes.now) c.args.files.now old old))
    status.NoMemory no_memory (g.K.Sink.state c.args.out.now) (g.K.Sink.state c.say_no_memory.new.out) c.say_no_memory.result
    (inl (record { status_is = refl; text_is = refl; same = refl })) c.say_no_memory.ensures.says

pub returns-in-Ok-save_all-clause-ends : goal.returns-in-Ok-save_all-clause-ends
returns-in-Ok-save_all-clause-ends g c =
    let asked = c.args.asked in
    let old = g.S.Shelf.state c.args.shelf.now in
    let mid = g.S.Shelf.state c.save_all.new.shelf in
    let new = g.S.Shelf.state c.read_back.new.shelf in
    Ends-map (OrWants (MayRun (order_of asked c.args.bytes.now) mid new)
    (BackReply (order_of asked c.args.bytes.now) mid new))
    (UnlessUnsaved old new (FilesAnswer (order_of asked c.args.bytes.now) c.args.files.now old new))
    (saved_ends (order_of asked c.args.bytes.now) c.args.files.now old mid new c.in-Ok-save_all.ensures.ok
    c.in-Ok-save_all.ensures.each_once c.in-Ok-save_all.ensures.no_read c.in-Ok-save_all.ensures.goes_on c.read_back.ensures.same
    c.read_back.ensures.no_change)
    (g.K.Sink.state c.args.out.now) (g.K.Sink.state c.read_back.new.out) c.read_back.result c.read_back.ensures.ends

pub tell_unsaved-requires-clause-place : goal.tell_unsaved-requires-clause-place
tell_unsaved-requires-clause-place g c =
    let failed = c.in-Err-save_all.ensures.err in
    slice_get_within c.args.files.now c.in-Err-save_all.place failed.failed failed.at

pub returns-clause-ends : goal.returns-clause-ends
returns-clause-ends g c =
    let asked = c.args.asked in
    let old = g.S.Shelf.state c.args.shelf.now in
    let new = g.S.Shelf.state c.save_all.new.shelf in
    let failed = c.in-Err-save_all.ensures.err in
    says_ends (UnlessUnsaved old new (FilesAnswer (order_of asked c.args.bytes.now) c.args.files.now old new))
    status.ShelfFault (cannot_save failed.failed.name) (g.K.Sink.state c.args.out.now) (g.K.Sink.state c.tell_unsaved.new.out)
    c.tell_unsaved.result
    (unsaved_ends (order_of asked c.args.bytes.now) c.args.files.now old new c.in-Err-save_all.place
    failed.failed (cannot_save failed.failed.name)
    failed c.in-Err-save_all.ensures.up_to c.in-Err-save_all.ensures.no_read failed.at refl)
    (c.tell_unsaved.ensures.says failed.failed failed.at)

pub returns-clause-others : goal.returns-clause-others
returns-clause-others g c =
    keeps_all (g.S.Shelf.state c.args.shelf.now) (g.S.Shelf.state c.save_all.new.shelf) c.args.files.now (c.in-Err-save_all.place + 1)
    c.in-Err-save_all.ensures.err.others
