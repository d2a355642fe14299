use Rattle.std.proofs.Common.{◌<◌}
use Rattle.mcu_jumps.specs.JumpWord.{JumpWord, ac_of}
use Rattle.mcu_jumps.specs.Landing.{Serves}
use Rattle.mcu_jumps.proofs.reaching.reach.Given as goal

-- no jump with an AC value that was tried serves
abbrev pub invariant-loop-ac : goal.invariant-loop-ac
invariant-loop-ac l = (other : JumpWord) → ac_of other < l.ac → Serves l.from l.kind l.targets other → ⊥
