use Rattle.std.proofs.Common.{◌<◌, sym, arith, length}
use Rattle.refute_check.proofs.DeriveLemmas.{negated_free}
use Rattle.refute_check.proofs.derivation.hold_negated.Goals as goal

pub hold-requires-clause-free : goal.hold-requires-clause-free
hold-requires-clause-free c =
    let lt : c.loop-lit.lit-index < length c.args.clause.now = omega arith in
    rw (c.negated.ensures, c.loop-lit.invariant.so_far)
    (negated_free c.args.clause.now c.loop-lit.lit-index c.lit-item.result c.requires.apart lt (sym c.lit-item.is))
