use Rattle.std.proofs.Common.{◌∙◌, length}
use Rattle.placement_clauses.specs.Upto.{at_place}
use Rattle.placement_clauses.specs.Clauses.{instr_clauses, instr_traps}
use Rattle.placement_clauses.proofs.JoinedLemmas.{joined-front, joined-back}
use Rattle.std.proofs.Common.{sym}
use Rattle.clause_encode.proofs.block_numbers.instr_block_at.Goals as goal

pub returns-then-number-labels-clause-clauses : goal.returns-then-number-labels-clause-clauses
returns-then-number-labels-clause-clauses c =
    let instrs = c.args.program.now.instrs in
    sym (joined-front (length instrs) c.from-labels.result c.args.number (at_place instrs (instr_clauses (length instrs)))
    (at_place instrs (instr_traps (length instrs))) (c.from-labels.ensures ∙ c.len.ensures) c.if-number-labels.true)

pub returns-else-number-labels-clause-clauses : goal.returns-else-number-labels-clause-clauses
returns-else-number-labels-clause-clauses c =
    let instrs = c.args.program.now.instrs in
    sym (joined-back (length instrs) c.from-labels.result c.args.number (at_place instrs (instr_clauses (length instrs)))
    (at_place instrs (instr_traps (length instrs))) (c.from-labels.ensures ∙ c.len.ensures) c.if-number-labels.false)
