use Rattle.std.proofs.Common.{ℕ, ◌≡◌, List, [], ◌∷◌, ap, ◌∙◌, subst}
use Rattle.std.specs.Prelude.{string_bytes}
use Rattle.saved_files.specs.FilesOfAnswers.{file_of}
use Rattle.saved_files.specs.OneFile.{IsWritten, IsUnwritten}
use Rattle.saved_files.specs.Unsaved.{cannot_save}
use Rattle.replies.specs.Ending.{Says}
use Rattle.replies.specs.declared.status.Status.TheVariants as status
use Rattle.replies.proofs.Stopping.{says_ends}
use Rattle.micro_cli.specs.Saving.{SavesOrCannot}
use Rattle.micro_cli.proofs.ToldFiles.{saved_told, unsaved_told}
use Rattle.micro_cli.proofs.answer_files.save_and_tell.Goals as goal

pub returns-in-Ok-clause-ends : goal.returns-in-Ok-clause-ends
returns-in-Ok-clause-ends g c =
    let file = c.args.file in
    let name = string_bytes file.name in
    let bytes = file.text.items in
    let old = g.S.Shelf.state c.args.shelf.now in
    let new = g.S.Shelf.state c.save_file.new.shelf in
    let from = g.K.Sink.state c.args.out.now in
    let to = g.K.Sink.state c.say.new.out in
    let by_name : List ℕ → Type 0 = λ n. IsWritten old new n c.deref.result.now in
    let by_text : List ℕ → Type 0 = λ b. IsWritten old new name b in
    let by_line : List ℕ → Type 0 = λ l. Says c.args.status l from to c.say.result in
    let written = subst by_text c.deref.ensures.value (subst by_name c.as_str.ensures.value c.in-Ok.ensures.ok) in
    says_ends (SavesOrCannot (file_of name bytes ∷ []) c.args.status file.told.items old new)
    c.args.status file.told.items from to c.say.result
    (saved_told name bytes file.told.items c.args.status old new written c.in-Ok.ensures.calls
    (c.one_written_file_is_saved.ensures.saved old new name bytes written))
    (subst by_line c.deref-in-Ok.ensures.value c.say.ensures.says)

pub returns-clause-ends : goal.returns-clause-ends
returns-clause-ends g c =
    let file = c.args.file in
    let name = string_bytes file.name in
    let bytes = file.text.items in
    let old = g.S.Shelf.state c.args.shelf.now in
    let new = g.S.Shelf.state c.save_file.new.shelf in
    let from = g.K.Sink.state c.args.out.now in
    let to = g.K.Sink.state c.say-in-Err.new.out in
    let by_name : List ℕ → Type 0 = λ n. IsUnwritten old new n c.deref.result.now in
    let by_text : List ℕ → Type 0 = λ b. IsUnwritten old new name b in
    let by_line : List ℕ → Type 0 = λ l. Says status.ShelfFault l from to c.say-in-Err.result in
    let unwritten = subst by_text c.deref.ensures.value (subst by_name c.as_str.ensures.value c.in-Err.ensures.err) in
    let told : c.deref-in-Err.result.now ≡ cannot_save name = c.deref-in-Err.ensures.value ∙ c.say_unsaved.ensures
    ∙ ap cannot_save c.as_str-in-Err.ensures.value in
    says_ends (SavesOrCannot (file_of name bytes ∷ []) c.args.status file.told.items old new) status.ShelfFault (cannot_save name)
    from to c.say-in-Err.result
    (unsaved_told name bytes file.told.items c.args.status old new unwritten c.in-Err.ensures.tries
    (c.one_written_file_is_saved.ensures.failed old new name bytes unwritten))
    (subst by_line told c.say-in-Err.ensures.says)
