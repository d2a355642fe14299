use Rattle.std.proofs.Common.{◌≡◌, take, map, neg_ℤ}
use Rattle.refute_check.proofs.derivation.hold_negated.Given as goal

abbrev pub invariant-loop-lit : goal.invariant-loop-lit
invariant-loop-lit l = record {
  vars : l.signs.vars ≡ l.initial.signs.vars;
  so_far : l.signs.held ≡ map neg_ℤ (take l.lit-index l.clause);
}
