use Rattle.std.proofs.Common.{◌-◌, ◌*◌, ◌∙◌, ◌≡◌, ap, sym, length, arith}
use Rattle.flow_graph.specs.Graph.{graph_of}
use Rattle.placement_clauses.proofs.LengthLemmas.{length-cell, length-earlier}
use Rattle.placement_clauses.proofs.CountLemmas.{length-bound}
use Rattle.clause_encode.specs.declared.blocks.Block.{Block}
use Rattle.clause_encode.specs.Blocks.{block_clauses}
use Rattle.clause_encode.proofs.blocks.Block.count.Goals as goal

pub flow_count-requires-clause-outcomes : goal.flow_count-requires-clause-outcomes
flow_count-requires-clause-outcomes c = (c.args.program.now.valid.each_instr _ c.instr.result.now c.instr.ensures).target_for_each_outcome

pub flow_count-requires-clause-label : goal.flow_count-requires-clause-label
flow_count-requires-clause-label c = (c.args.program.now.valid.each_instr _ c.instr.result.now c.instr.ensures).some_label

pub instr_traps_count-requires-clause-instr : goal.instr_traps_count-requires-clause-instr
instr_traps_count-requires-clause-instr c =
    rw (c.from-in-Traps.ensures, c.len.ensures)
    (c.args.program.now.valid.each_instr _ c.instr-in-Traps.result.now c.instr-in-Traps.ensures)

pub returns-in-Cell : goal.returns-in-Cell
returns-in-Cell c = ap (λ (b : Block). length (block_clauses (graph_of c.args.program.now) b)) c.in-Cell.is ∙ length-cell _

pub returns-in-Apart : goal.returns-in-Apart
returns-in-Apart c =
    let long : length (block_clauses (graph_of c.args.program.now) c.args.self) ≡ c.in-Apart.label * 48 =
    ap (λ (b : Block). length (block_clauses (graph_of c.args.program.now) b)) c.in-Apart.is ∙ length-earlier _ _ in
    omega arith

pub returns-in-Bound : goal.returns-in-Bound
returns-in-Bound c =
    let rows = c.from.ensures ∙ c.rows.ensures in
    ap (λ (b : Block). length (block_clauses (graph_of c.args.program.now) b)) c.in-Bound.is ∙ length-bound _ _
    ∙ ap (λ r. 32 - r) (sym rows)
