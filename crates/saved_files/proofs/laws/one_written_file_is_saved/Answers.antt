use Rattle.saved_files.proofs.OneFileLemmas.{unwritten_longer}
use Rattle.saved_files.proofs.OneFileIsSaved.{written_is_saved, unwritten_fails}
use Rattle.saved_files.proofs.laws.one_written_file_is_saved.Goals as goal

pub returns-clause-saved : goal.returns-clause-saved
returns-clause-saved c = written_is_saved

pub returns-clause-failed : goal.returns-clause-failed
returns-clause-failed c = unwritten_fails

pub returns-clause-longer : goal.returns-clause-longer
returns-clause-longer c = unwritten_longer
