use Rattle.bpnf.proofs.PrintedLaws.{printed_is_read}
use Rattle.bpnf.proofs.laws.printed_text_is_read.Goals as goal

pub returns : goal.returns
returns c = printed_is_read
