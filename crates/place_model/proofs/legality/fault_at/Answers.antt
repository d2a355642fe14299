-- Each target is a label with a cell, or the trap.
use Rattle.place_model.proofs.legality.fault_at.Goals as goal

pub least_jump-requires-clause-instr : goal.least_jump-requires-clause-instr
least_jump-requires-clause-instr c =
    rw c.requires.cells (c.args.program.now.valid.each_instr c.args.label c.instr-instr.result.now c.instr-instr.ensures)
