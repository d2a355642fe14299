use Rattle.std.proofs.Common.{◌-◌, ℕ, ap, ◌∙◌}
use Rattle.std.specs.Prelude.{bit_and}
use Rattle.std.proofs.lemmas.Nat.{one_shl, and_mask}
use Rattle.prom_split.proofs.low_bits.low_bits.Goals as goal

pub returns-clause-low : goal.returns-clause-low
returns-clause-low c =
    ap (λ (power : ℕ). bit_and c.args.number (power - 1)) (one_shl c.args.count 128 c.requires) ∙ and_mask c.args.number c.args.count
