use Rattle.std.proofs.Common.{◌∙◌, ◌-◌, sym, length}
use Rattle.ref_text.proofs.MarkLemmas.{each_literal}
use Rattle.ref_text.proofs.literals.are_literals.Goals as goal

pub returns-clause-sizes : goal.returns-clause-sizes
returns-clause-sizes c = λ apart. each_literal (length c.args.marks.now - 1) c.args.literals.now (sym c.mark-apart.ensures.told ∙ apart)
