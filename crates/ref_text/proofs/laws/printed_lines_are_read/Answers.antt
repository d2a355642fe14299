use Rattle.ref_text.proofs.PrintedLemmas.{line_said}
use Rattle.ref_text.proofs.laws.printed_lines_are_read.Goals as goal

pub returns : goal.returns
returns c = λ number line can. line_said number line can
