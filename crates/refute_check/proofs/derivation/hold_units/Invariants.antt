use Rattle.std.proofs.Common.{◌≡◌, drop, Some}
use Rattle.refute_check.specs.Known.{known_clauses}
use Rattle.refute_check.specs.Hints.{held_after}
use Rattle.refute_check.proofs.derivation.hold_units.Given as goal

abbrev pub invariant-loop-hint : goal.invariant-loop-hint
invariant-loop-hint l = record {
  vars : l.signs.vars ≡ l.initial.signs.vars;
  so_far : held_after (known_clauses l.known) (Some l.signs.held) (drop l.hint-index l.hints) ≡ held_after (known_clauses l.known)
      (Some l.initial.signs.held) l.hints;
}
