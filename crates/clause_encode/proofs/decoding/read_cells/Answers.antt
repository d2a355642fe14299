use Rattle.std.proofs.Common.{◌≡◌, ◌+◌, ◌<◌, ℕ, length, ap, sym, subst, ◌∙◌, arith, List, Some}
use Rattle.std.specs.Prelude.{slice_get}
use Rattle.std.proofs.lemmas.List.{length_push}
use Rattle.mcu_jumps.specs.Position.{Position}
use Rattle.flow_graph.specs.Graph.{graph_of}
use Rattle.clause_base.specs.TruthValues.{AllHold, truth_in}
use Rattle.placement_clauses.specs.Shape.{one, any_of}
use Rattle.placement_clauses.specs.PinCells.{HavePinCells}
use Rattle.placement_clauses.proofs.DecodeLemmas.{IsReadCell, cell_class-rows, read-from, read-more, legal-from, true-cells}
use Rattle.clause_encode.proofs.decoding.read_cells.Goals as goal

pub first_true-row-requires-clause-some : goal.first_true-row-requires-clause-some
first_true-row-requires-clause-some c =
    let a = truth_in c.args.model.now in
    let g = graph_of c.args.program.now in
    let lt : c.loop-label.label < length g.instrs = omega (arith, c.len.ensures, c.from-labels.ensures) in
    subst (λ (v : ℕ). AllHold a (one (any_of 32 v))) (sym c.row_var.ensures)
    (cell_class-rows a g c.loop-label.label lt c.requires.holds).0

pub first_true-col-requires-clause-some : goal.first_true-col-requires-clause-some
first_true-col-requires-clause-some c =
    let a = truth_in c.args.model.now in
    let g = graph_of c.args.program.now in
    let lt : c.loop-label.label < length g.instrs = omega (arith, c.len.ensures, c.from-labels.ensures) in
    subst (λ (v : ℕ). AllHold a (one (any_of 16 v))) (sym c.col_var.ensures)
    (cell_class-rows a g c.loop-label.label lt c.requires.holds).1

pub loop-label-preserved : goal.loop-label-preserved
loop-label-preserved c =
    let a = truth_in c.args.model.now in
    let i = c.loop-label.label in
    let p : Position = record { row = c.first_true-row.result; col = c.first_true-col.result } in
    let read : IsReadCell a i p = record {
      row_in = c.first_true-row.ensures.within;
      col_in = c.first_true-col.ensures.within;
      row = ap (λ v. a (v + c.first_true-row.result)) (sym c.row_var.ensures) ∙ c.first_true-row.ensures.holds;
      col = ap (λ v. a (v + c.first_true-col.result)) (sym c.col_var.ensures) ∙ c.first_true-col.ensures.holds;
    } in
    let here : IsReadCell a i c.at.result = subst (λ (p : Position). IsReadCell a i p) (sym c.at.ensures) read in
    let items = c.in_ok-push.ensures.items in
    subst (λ (cells : List Position).
    record { count : length cells ≡ i + 1; cells : (j : ℕ) (q : Position) → slice_get cells j ≡ Some q → IsReadCell a j q })
    (sym items)
    (record {
      count = length_push c.loop-label.cells.items c.at.result ∙ ap (λ n. n + 1) c.loop-label.invariant.count;
      cells = read-more a c.loop-label.cells.items i c.at.result c.loop-label.invariant.count c.loop-label.invariant.cells here;
    })

pub returns-clause-legal : goal.returns-clause-legal
returns-clause-legal c =
    let a = truth_in c.args.model.now in
    let g = graph_of c.args.program.now in
    let count : length c.loop-label.cells.items ≡ length g.instrs =
    omega (arith, c.len.ensures, c.from-labels.ensures, c.loop-label.invariant.count) in
    legal-from a g c.loop-label.cells.items c.args.program.now.valid
    (subst HavePinCells (c.as_slice.ensures ∙ c.pins.ensures) c.pin_cells.ensures)
    (read-from a g c.loop-label.cells.items c.requires.holds count c.loop-label.invariant.cells) c.requires.holds

pub returns-clause-decodes : goal.returns-clause-decodes
returns-clause-decodes c = true-cells (truth_in c.args.model.now) c.loop-label.cells.items c.loop-label.invariant.cells
