-- Each label gets the cell of its pin.
use Rattle.std.proofs.Common.{◌≡◌, [], ◌∷◌, ◌++◌, length, refl, ◌∙◌, arith}
use Rattle.std.proofs.lemmas.Grind.{common_steps}
use Rattle.flow_graph.specs.Graph.{graph_of}
use Rattle.place_model.proofs.PinLemmas.{ArePinnedBelow-push, ArePinnedCells-from_below}
use Rattle.place_model.proofs.pinned_cells.pinned_cells.Goals as goal

pub returns-in-None-clause-err : goal.returns-in-None-clause-err
returns-in-None-clause-err c =
    let listed : c.as_slice.result.now ≡ c.args.program.now.pins = c.as_slice.ensures ∙ c.pins.ensures in (
      c.loop-label.label,
      c.instr.result.now,
      c.instr.ensures,
      refl,
      rw listed at c.in-None.ensures.none,
      λ earlier before. (let found = c.loop-label.invariant.pinned earlier before in (found.0, found.2)),
    )

pub loop-label-preserved : goal.loop-label-preserved
loop-label-preserved c =
    let listed : c.as_slice.result.now ≡ c.args.program.now.pins = c.as_slice.ensures ∙ c.pins.ensures in
    let cells = c.loop-label.cells.items in
    let grown : c.push.new.self.items ≡ cells ++ c.in-Some.cell ∷ [] = grind (arith, common_steps) in
    record {
      count = grind (arith, common_steps);
      pinned = rw grown (ArePinnedBelow-push c.args.program.now.pins cells c.loop-label.label c.in-Some.cell (grind (arith, common_steps))
          c.loop-label.invariant.pinned (rw listed at c.in-Some.ensures.some));
    }

pub returns-clause-ok : goal.returns-clause-ok
returns-clause-ok c =
    let cells = c.loop-label.cells.items in
    let count : c.loop-label.label ≡ length cells = grind (arith, common_steps) in
    rw c.new.ensures (ArePinnedCells-from_below (graph_of c.args.program.now) cells (omega arith)
    (rw (← count) c.loop-label.invariant.pinned))
