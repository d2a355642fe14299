use Rattle.std.proofs.Common.{◌-◌, ◌<◌, ◌^◌, List, ℤ, length}
use Rattle.flow_graph.specs.Graph.{graph_of}
use Rattle.clause_base.specs.Clauses.{IsClause}
use Rattle.clause_encode.specs.PlacementList.{list_of}
use Rattle.clause_encode.proofs.ProgramLemmas.{program_givable}
use Rattle.clause_encode.proofs.ShortLemmas.{All-at}
use Rattle.clause_encode.proofs.program_source.ProgramSourceClauseSource.clause.Goals as goal

pub returns-clause-valid : goal.returns-clause-valid
returns-clause-valid c =
    let g = graph_of c.args.self.now.program.now in
    let all = program_givable c.args.self.now.program.now c.args.self.now.cells in
    All-at (IsClause (list_of g).vars) (list_of g).clauses (c.args.number - 1)
    c.in_ok-clause.clause.items all.valid c.in_ok-clause.ensures

pub returns-clause-short : goal.returns-clause-short
returns-clause-short c =
    let g = graph_of c.args.self.now.program.now in
    let all = program_givable c.args.self.now.program.now c.args.self.now.cells in
    All-at (λ (clause : List ℤ). length clause < 2 ^ 32) (list_of g).clauses (c.args.number - 1)
    c.in_ok-clause.clause.items all.short c.in_ok-clause.ensures
