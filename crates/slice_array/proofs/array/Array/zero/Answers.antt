use Rattle.std.proofs.Common.{◌∙◌, ap, replicate}
use Rattle.cpe_slice.specs.Registers.{Registers}
use Rattle.slice_array.specs.Whole.{whole}
use Rattle.slice_array.proofs.WholeWords.{whole_zero, all_replicate}
use Rattle.slice_array.proofs.array.Array.zero.Goals as goal

pub invariant_of-result : goal.invariant_of-result
invariant_of-result g c = (c.requires.0, c.requires.1, all_replicate g.row.N c.zero.result c.zero.ensures.below)

pub returns : goal.returns
returns g c = ap (λ (s : Registers). whole (replicate g.row.N s)) c.zero.ensures.value ∙ whole_zero g.row.N
