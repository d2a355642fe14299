use Rattle.std.proofs.Common.{[]}
use Rattle.saved_files.proofs.one_file.save_file.Goals as goal

pub returns-in-Ok-clause-err : goal.returns-in-Ok-clause-err
returns-in-Ok-clause-err g c = c.grow_file.ensures.err (g.S.Shelf.state c.args.shelf.now) [] c.in-Ok.ensures.ok
