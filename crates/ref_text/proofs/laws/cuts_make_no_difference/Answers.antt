use Rattle.ref_text.proofs.PieceLaws.{after_cut, events_cut}
use Rattle.ref_text.proofs.laws.cuts_make_no_difference.Goals as goal

pub returns-clause-events : goal.returns-clause-events
returns-clause-events c = λ reader front back. events_cut reader front back

pub returns-clause-reader : goal.returns-clause-reader
returns-clause-reader c = λ reader front back. after_cut reader front back
