use Rattle.std.proofs.Common.{◌≡◌, drop}
use Rattle.refute_check.specs.Hints.{look_on}
use Rattle.refute_check.specs.declared.derivation.ClauseStatus.TheVariants.{False}
use Rattle.refute_check.proofs.derivation.look_on.Given as goal

abbrev pub invariant-loop-lit : goal.invariant-loop-lit
invariant-loop-lit l = look_on l.signs.held (drop l.lit-index l.clause) l.seen ≡ look_on l.signs.held l.clause False
