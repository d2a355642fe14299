use Rattle.ref_text.proofs.PieceLaws.{first_events}
use Rattle.ref_text.proofs.laws.whole_lines_are_told.Goals as goal

pub returns : goal.returns
returns c = λ number vars text. first_events number vars text
