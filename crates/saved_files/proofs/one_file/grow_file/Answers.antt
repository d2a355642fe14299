use Rattle.saved_files.proofs.OneFileLemmas.{unwritten_grown}
use Rattle.saved_files.proofs.one_file.grow_file.Goals as goal

pub returns-in-Err-clause-err : goal.returns-in-Err-clause-err
returns-in-Err-clause-err g c = λ start text written.
    let e = c.in-Err.ensures in
    unwritten_grown start (g.S.Shelf.state c.args.shelf.now) (g.S.Shelf.state c.append.new.self) c.args.name.now text c.args.piece.now
    written (record { goes_on = e.goes_on; no_read = e.counts; others = e.others }) e.cause.rose e.cause.named e.err
