use Rattle.bpnf.proofs.NothingElseIsAllowed.{only_reading}
use Rattle.bpnf.proofs.ReadingIsAllowed.{reading_is_read}
use Rattle.bpnf.proofs.laws.each_text_has_one_reading.Goals as goal

pub returns-clause-some : goal.returns-clause-some
returns-clause-some c = reading_is_read

pub returns-clause-only : goal.returns-clause-only
returns-clause-only c = only_reading
