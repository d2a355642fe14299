use Rattle.std.proofs.Common.{◌/◌, ◌%◌, ◌≡◌, sym, ap, subst, ◌∙◌, arith}
use Rattle.mcu_jumps.specs.Position.{Position, IsCell, address_of}
use Rattle.flow_graph.specs.Graph.{graph_of}
use Rattle.prom_split.proofs.PlacedSteps.{cell_at, placed_push}
use Rattle.prom_split.proofs.placed_words.words_of.Goals as goal

pub loop-address-preserved : goal.loop-address-preserved
loop-address-preserved c =
    let address = c.loop-address.address in
    let cell : c.at-cell.result ≡ cell_at (address / 16) (address % 16) = c.at-cell.ensures in
    let in_range : IsCell (cell_at (address / 16) (address % 16)) = record { row = omega arith; col = omega arith } in
    let in_matrix : IsCell c.at-cell.result = subst (λ (p : Position). IsCell p) (sym cell) in_range in
    let here : address_of c.at-cell.result ≡ address = ap address_of cell ∙ omega arith in
    rw c.in_ok-push.ensures.items
    (placed_push (graph_of c.args.program.now)
    c.args.placement.now address c.loop-address.words.items c.at-cell.result c.word_of.result c.loop-address.invariant in_matrix here
    c.word_of.ensures.word c.word_of.ensures.fits)
