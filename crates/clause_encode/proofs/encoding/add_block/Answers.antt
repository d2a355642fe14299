use Rattle.std.proofs.Common.{◌∙◌, sym, subst, ℕ}
use Rattle.clause_base.specs.Clauses.{IsClause}
use Rattle.flow_graph.specs.Graph.{graph_of}
use Rattle.clause_encode.specs.Shapes.{lits_of}
use Rattle.clause_encode.specs.Blocks.{block_clauses}
use Rattle.clause_encode.proofs.AddsLemmas.{Adds-take_more}
use Rattle.clause_encode.proofs.BlockValid.{block_valid}
use Rattle.clause_encode.proofs.encoding.add_block.Goals as goal

pub add_clause-requires-clause-valid : goal.add_clause-requires-clause-valid
add_clause-requires-clause-valid c =
    subst (λ (vars : ℕ). IsClause vars (lits_of c.clause.result)) (sym (c.loop-place.invariant.vars ∙ c.requires.vars))
    (block_valid c.args.program.now c.args.block c.loop-place.place (lits_of c.clause.result) c.requires.block c.clause.ensures.there)

pub loop-place-preserved : goal.loop-place-preserved
loop-place-preserved c =
    Adds-take_more _ _ _ c.loop-place.place (block_clauses (graph_of c.args.program.now) c.args.block)
    _ c.clause.ensures.there c.loop-place.invariant c.in_ok-add_clause.ensures
