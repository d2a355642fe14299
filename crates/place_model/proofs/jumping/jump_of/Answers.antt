-- A legal placement has a jump at each label, and a cell for each.
use Rattle.place_model.proofs.jumping.jump_of.Goals as goal

pub least_jump-requires-clause-instr : goal.least_jump-requires-clause-instr
least_jump-requires-clause-instr c =
    rw c.requires.legal.cell_for_each_label (c.args.program.now.valid.each_instr c.args.label c.instr.result.now c.instr.ensures)
