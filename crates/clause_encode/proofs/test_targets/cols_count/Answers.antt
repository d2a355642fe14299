use Rattle.std.proofs.Common.{◌∙◌, ap, sym}
use Rattle.std.specs.Prelude.{if◌then◌else◌}
use Rattle.placement_clauses.proofs.CountLemmas.{length-cols}
use Rattle.clause_encode.proofs.test_targets.cols_count.Goals as goal

pub returns-then-keeps_half-clause-count : goal.returns-then-keeps_half-clause-count
returns-then-keeps_half-clause-count c = λ s o y. length-cols c.args.kind s o y
    ∙ ap (λ b. if b then 16 else 1) (sym c.keeps_half.ensures ∙ c.if-keeps_half.true)

pub returns-else-keeps_half-clause-count : goal.returns-else-keeps_half-clause-count
returns-else-keeps_half-clause-count c = λ s o y. length-cols c.args.kind s o y
    ∙ ap (λ b. if b then 16 else 1) (sym c.keeps_half.ensures ∙ c.if-keeps_half.false)
