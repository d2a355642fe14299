use Rattle.flow_sim.proofs.instruction.instr_at.Goals as goal

pub returns-in-Some-clause-microword : goal.returns-in-Some-clause-microword
returns-in-Some-clause-microword c = c.args.program.now.fits.each c.in-Some.label c.instr.result.now c.instr.ensures

pub returns-in-Some-clause-targets : goal.returns-in-Some-clause-targets
returns-in-Some-clause-targets c =
    (c.args.program.now.valid.each_instr c.in-Some.label c.instr.result.now c.instr.ensures).targets_in_range
