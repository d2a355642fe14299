use Rattle.cpe_slice.specs.WordStep.{bit}
use Rattle.slice_array.proofs.RippleLoop.{IsThrough}
use Rattle.slice_array.proofs.wiring.ripple.Given as goal

abbrev pub invariant-loop-j : goal.invariant-loop-j
invariant-loop-j l =
    IsThrough l.f (record { k = l.k; m = l.m; i = l.i; ci = bit l.ci; li = 0 }) l.initial.slices l.slices l.j l.links l.carry
