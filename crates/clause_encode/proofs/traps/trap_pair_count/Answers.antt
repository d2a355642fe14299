use Rattle.std.proofs.Common.{◌∙◌, ap, sym}
use Rattle.std.specs.Prelude.{if◌then◌else◌}
use Rattle.placement_clauses.proofs.CountLemmas.{length-trap_pair}
use Rattle.clause_encode.proofs.traps.trap_pair_count.Goals as goal

pub returns-then-keeps_half-clause-count : goal.returns-then-keeps_half-clause-count
returns-then-keeps_half-clause-count c = λ n x e o z. length-trap_pair n c.args.kind x e o z
    ∙ ap (λ b. if b then 2 else 1) (sym c.keeps_half.ensures ∙ c.if-keeps_half.true)

pub returns-else-keeps_half-clause-count : goal.returns-else-keeps_half-clause-count
returns-else-keeps_half-clause-count c = λ n x e o z. length-trap_pair n c.args.kind x e o z
    ∙ ap (λ b. if b then 2 else 1) (sym c.keeps_half.ensures ∙ c.if-keeps_half.false)
