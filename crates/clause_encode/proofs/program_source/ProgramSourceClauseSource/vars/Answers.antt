use Rattle.clause_encode.proofs.ProgramLemmas.{program_givable}
use Rattle.clause_encode.proofs.program_source.ProgramSourceClauseSource.vars.Goals as goal

pub returns-clause-givable : goal.returns-clause-givable
returns-clause-givable c = program_givable c.args.self.now.program.now c.args.self.now.cells
