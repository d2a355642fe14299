use Rattle.std.proofs.Common.{arith, rules}
use Rattle.std.proofs.lemmas.Grind.{common_steps}
use Rattle.placement_clauses.proofs.UptoLemmas.{upto-none, upto-more}
use Rattle.clause_encode.proofs.clause_shape.any_lits.Goals as goal

pub loop-k-init : goal.loop-k-init
loop-k-init c = rw upto-none (search rules)

pub loop-k-preserved : goal.loop-k-preserved
loop-k-preserved c = rw upto-more (grind (arith, common_steps))
