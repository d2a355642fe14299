use Rattle.std.proofs.Common.{◌≡◌, ◌≤◌, sym, ◌∙◌, arith}
use Rattle.clause_base.specs.Lit.{var_of}
use Rattle.refute_check.specs.Hints.{look_on}
use Rattle.refute_check.specs.declared.derivation.ClauseStatus.TheVariants.{Unit, False}
use Rattle.refute_check.proofs.LookLaws.{single_seen, unit-in}
use Rattle.refute_check.proofs.derivation.hold_unit.Goals as goal

pub hold-requires-clause-range : goal.hold-requires-clause-range
hold-requires-clause-range c =
    let seen : look_on c.args.signs.now.held c.get.result.now False ≡ Unit c.in-Unit.lit = sym c.look_on.ensures ∙ c.in-Unit.is in
    let u = single_seen c.args.signs.now.held c.get.result.now c.in-Unit.lit seen in
    let in_range = unit-in (λ z. var_of z ≤ c.args.known.now.vars)
    c.args.signs.now.held c.get.result.now c.in-Unit.lit u c.get.ensures.valid.in_range in
    omega (arith, in_range, c.requires.vars)

pub hold-requires-clause-free : goal.hold-requires-clause-free
hold-requires-clause-free c =
    let seen : look_on c.args.signs.now.held c.get.result.now False ≡ Unit c.in-Unit.lit = sym c.look_on.ensures ∙ c.in-Unit.is in
    (single_seen c.args.signs.now.held c.get.result.now c.in-Unit.lit seen).unassigned
