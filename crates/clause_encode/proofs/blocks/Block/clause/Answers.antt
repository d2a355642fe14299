use Rattle.std.proofs.Common.{◌-◌, ◌<◌, ◌∙◌, ap, sym, subst, length, ℕ}
use Rattle.flow_graph.specs.Graph.{graph_of}
use Rattle.placement_clauses.proofs.LengthLemmas.{length-cell, length-earlier}
use Rattle.placement_clauses.proofs.CountLemmas.{length-bound}
use Rattle.clause_encode.specs.declared.blocks.Block.{Block}
use Rattle.clause_encode.specs.Blocks.{block_clauses}
use Rattle.clause_encode.proofs.blocks.Block.clause.Goals as goal

pub cell_clause-requires-clause-place : goal.cell_clause-requires-clause-place
cell_clause-requires-clause-place c =
    subst (λ (m : ℕ). c.args.place < m)
    (ap (λ (b : Block). length (block_clauses (graph_of c.args.program.now) b)) c.in-Cell.is ∙ length-cell _) c.requires.place

pub apart_clause-requires-clause-place : goal.apart_clause-requires-clause-place
apart_clause-requires-clause-place c =
    subst (λ (m : ℕ). c.args.place < m)
    (ap (λ (b : Block). length (block_clauses (graph_of c.args.program.now) b)) c.in-Apart.is ∙ length-earlier _ _) c.requires.place

pub bound_clause-requires-clause-place : goal.bound_clause-requires-clause-place
bound_clause-requires-clause-place c =
    let rows = c.from.ensures ∙ c.rows.ensures in
    subst (λ (m : ℕ). c.args.place < m)
    (ap (λ (b : Block). length (block_clauses (graph_of c.args.program.now) b)) c.in-Bound.is ∙ length-bound _ _
    ∙ ap (λ r. 32 - r) (sym rows)) c.requires.place

pub flow_clause-requires-clause-instr : goal.flow_clause-requires-clause-instr
flow_clause-requires-clause-instr c =
    rw (c.from-labels.ensures, c.len.ensures) (c.args.program.now.valid.each_instr _ c.instr.result.now c.instr.ensures)

pub instr_trap_clause-requires-clause-instr : goal.instr_trap_clause-requires-clause-instr
instr_trap_clause-requires-clause-instr c =
    rw (c.from-labels.ensures, c.len.ensures) (c.args.program.now.valid.each_instr _ c.instr-in-Traps.result.now c.instr-in-Traps.ensures)
