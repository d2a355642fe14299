use Rattle.cpe_slice.specs.WordStep.{bit}
use Rattle.slice_array.proofs.ShiftLoop.{IsDownward}
use Rattle.slice_array.proofs.wiring.shift.Given as goal

abbrev pub invariant-loop-j : goal.invariant-loop-j
invariant-loop-j l =
    IsDownward l.f (record { k = l.k; m = l.m; i = l.i; ci = 0; li = bit l.li }) l.initial.slices l.slices l.j l.links l.low_bit
