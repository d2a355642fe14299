use Rattle.prom_split.proofs.SavedBits.{saved_bit}
use Rattle.prom_split.proofs.laws.each_bit_is_saved.Goals as goal

pub returns : goal.returns
returns c = saved_bit
