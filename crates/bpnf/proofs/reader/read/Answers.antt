use Rattle.std.proofs.Common.{Ok}
use Rattle.bpnf.proofs.ReadLaws.{answer_is_read, words_make_image, fault_is_first}
use Rattle.bpnf.proofs.reader.read.Goals as goal

pub new-requires : goal.new-requires
new-requires c =
    rw c.of.ensures (words_make_image c.args.bits c.args.bytes.now c.in-Ok.words.items c.requires c.in-Ok.ensures)

pub returns-in-Ok-clause-words : goal.returns-in-Ok-clause-words
returns-in-Ok-clause-words c =
    rw c.new.ensures (rw c.of.ensures (answer_is_read c.args.bits 512 c.args.bytes.now (Ok c.in-Ok.words.items) c.in-Ok.ensures))

pub returns-in-Err-clause-fault : goal.returns-in-Err-clause-fault
returns-in-Err-clause-fault c = fault_is_first c.args.bits 512 c.args.bytes.now c.in-Err.fault c.in-Err.ensures
