use Rattle.refute_check.proofs.SizeLemmas.{lines_size, saved_size}
use Rattle.refute_check.proofs.laws.refutation_texts_are_short.Goals as goal

pub returns-clause-each : goal.returns-clause-each
returns-clause-each c = λ list lines all derived few small. lines_size lines list all derived few small

pub returns-clause-saved : goal.returns-clause-saved
returns-clause-saved c = λ list lines all derived small few count. saved_size list lines all derived small few count
