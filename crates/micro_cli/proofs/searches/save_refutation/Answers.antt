use Rattle.std.proofs.Common.{length}
use Rattle.ref_text.specs.Text.{refutation_text}
use Rattle.saved_files.specs.FileNames.{refutation_name}
use Rattle.saved_files.specs.FilesOfAnswers.{refuted_files}
use Rattle.replies.specs.declared.status.Status.TheVariants as status
use Rattle.micro_cli.specs.Telling.{refuted_line}
use Rattle.micro_cli.specs.Saving.{SavesOrCannot}
use Rattle.micro_cli.proofs.ToldFiles.{ready_ends, wants_ends}
use Rattle.micro_cli.proofs.searches.save_refutation.Goals as goal

pub returns-in-Ok-clause-ends : goal.returns-in-Ok-clause-ends
returns-in-Ok-clause-ends g c =
    ready_ends c.in-Ok.file (refutation_name c.args.name.now) (refutation_text c.args.clauses c.args.lines.now)
    (refuted_line (length c.args.lines.now)) status.Refuted
    (g.S.Shelf.state c.args.shelf.now) (g.S.Shelf.state c.save_and_tell.new.shelf) (g.K.Sink.state c.args.out.now)
    (g.K.Sink.state c.save_and_tell.new.out)
    c.save_and_tell.result c.in-Ok.ensures c.save_and_tell.ensures.ends

pub returns-in-Err-clause-ends : goal.returns-in-Err-clause-ends
returns-in-Err-clause-ends g c =
    let shelf = g.S.Shelf.state c.args.shelf.now in
    wants_ends (SavesOrCannot (refuted_files c.args.name.now (refutation_text c.args.clauses c.args.lines.now)) status.Refuted
    (refuted_line (length c.args.lines.now)) shelf shelf) shelf
    (g.K.Sink.state c.args.out.now) (g.K.Sink.state c.say_no_memory.new.out) c.say_no_memory.result c.say_no_memory.ensures.says
