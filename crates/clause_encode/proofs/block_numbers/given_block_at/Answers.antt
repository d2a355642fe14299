use Rattle.std.proofs.Common.{◌≡◌, ◌≤◌, ◌<◌, ◌-◌, ◌∙◌, sym, ap, refl, arith, length, List, [], Option, Some, ℤ}
use Rattle.std.specs.Prelude.{slice_get}
use Rattle.std.specs.Option.{option_map_or}
use Rattle.std.proofs.lemmas.Option.{slice_get_read}
use Rattle.flow_graph.specs.declared.pinning.Pin.{Pin}
use Rattle.flow_graph.specs.Graph.{graph_of}
use Rattle.placement_clauses.specs.Upto.{joined, at_place}
use Rattle.placement_clauses.specs.Clauses.{at_clauses, pin_clauses, bound_clauses}
use Rattle.placement_clauses.proofs.JoinedLemmas.{joined-front, joined-back}
use Rattle.clause_encode.specs.Blocks.{instr_block}
use Rattle.clause_encode.proofs.block_numbers.given_block_at.Goals as goal

pub returns-then-number-pins-clause-block : goal.returns-then-number-pins-clause-block
returns-then-number-pins-clause-block c =
    let same = c.as_slice.ensures ∙ c.pins.ensures in
    let count = ap length same in
    let within : c.args.number < length c.as_slice.result.now =
    omega (arith, count, c.if-number-pins.true, c.pin_count-pins.ensures.count) in
    let there : slice_get c.as_slice.result.now c.args.number ≡ Some c.index-as_slice-number.result =
    slice_get_read c.as_slice.result.now (length c.as_slice.result.now)
    c.args.number c.index-as_slice-number.result refl within c.index-as_slice-number.is in
    let label = c.args.program.now.valid.pins_in_range c.args.number c.index-as_slice-number.result
    (ap (λ (pins : List Pin). slice_get pins c.args.number) (sym same) ∙ there) in
    (omega (arith, label), omega arith, omega arith)

pub returns-then-number-pins-clause-clauses : goal.returns-then-number-pins-clause-clauses
returns-then-number-pins-clause-clauses c =
    let g = graph_of c.args.program.now in
    let n = length g.instrs in
    let same = c.as_slice.ensures ∙ c.pins.ensures in
    let count = ap length same in
    let within : c.args.number < length c.as_slice.result.now =
    omega (arith, count, c.if-number-pins.true, c.pin_count-pins.ensures.count) in
    let pin = c.index-as_slice-number.result in
    let there : slice_get c.as_slice.result.now c.args.number ≡ Some pin =
    slice_get_read c.as_slice.result.now (length c.as_slice.result.now) c.args.number pin refl within c.index-as_slice-number.is in
    let row = c.from-then-number-pins.ensures ∙ c.row.ensures.row in
    let col = c.from-then-number-pins-2.ensures ∙ c.col.ensures.col in
    (λ i. at_clauses (c.from.ensures i) (row i) (col i))
    ∙ ap (λ (o : Option Pin). option_map_or (pin_clauses c.args.number) o []) (sym there)
    ∙ ap (λ (pins : List Pin). at_place pins pin_clauses c.args.number) same
    ∙ sym (joined-front (length g.pins) c.pin_count-pins.result c.args.number (at_place g.pins pin_clauses)
    (joined 1 (λ _. at_clauses g.start 0 0) (joined n (bound_clauses g.rows) (instr_block g)))
    c.pin_count-pins.ensures.count c.if-number-pins.true)

pub returns-then-number-pins-2-clause-clauses : goal.returns-then-number-pins-2-clause-clauses
returns-then-number-pins-2-clause-clauses c =
    let g = graph_of c.args.program.now in
    let n = length g.instrs in
    let start : List (List ℤ) = at_clauses g.start 0 0 in
    let rest = joined n (bound_clauses g.rows) (instr_block g) in
    ap (λ l. at_clauses l 0 0) (c.from-then-number-pins-2-2.ensures ∙ c.start.ensures)
    ∙ sym (joined-back (length g.pins) c.pin_count-pins.result c.args.number (at_place g.pins pin_clauses) (joined 1 (λ _. start) rest)
    c.pin_count-pins.ensures.count c.if-number-pins.false
    ∙ joined-front 1 1 (c.args.number - c.pin_count-pins.result) (λ _. start) rest refl (omega arith))

pub returns-then-left-labels-clause-clauses : goal.returns-then-left-labels-clause-clauses
returns-then-left-labels-clause-clauses c =
    let g = graph_of c.args.program.now in
    let n = length g.instrs in
    let start : List (List ℤ) = at_clauses g.start 0 0 in
    let rest = joined n (bound_clauses g.rows) (instr_block g) in
    let past : 1 ≤ c.args.number - c.pin_count-pins.result = omega (arith, c.if-number-pins-2.false) in
    sym (joined-back (length g.pins) c.pin_count-pins.result c.args.number (at_place g.pins pin_clauses) (joined 1 (λ _. start) rest)
    c.pin_count-pins.ensures.count c.if-number-pins.false
    ∙ joined-back 1 1 (c.args.number - c.pin_count-pins.result) (λ _. start) rest refl past
    ∙ joined-front n c.from-labels.result (c.args.number - c.pin_count-pins.result - 1) (bound_clauses g.rows) (instr_block g)
    (c.from-labels.ensures ∙ c.len.ensures) c.if-left-labels.true)

pub returns-else-left-labels-clause-clauses : goal.returns-else-left-labels-clause-clauses
returns-else-left-labels-clause-clauses c =
    let g = graph_of c.args.program.now in
    let n = length g.instrs in
    let start : List (List ℤ) = at_clauses g.start 0 0 in
    let rest = joined n (bound_clauses g.rows) (instr_block g) in
    let past : 1 ≤ c.args.number - c.pin_count-pins.result = omega (arith, c.if-number-pins-2.false) in
    c.instr_block_at.ensures.clauses
    ∙ sym (joined-back (length g.pins) c.pin_count-pins.result c.args.number (at_place g.pins pin_clauses) (joined 1 (λ _. start) rest)
    c.pin_count-pins.ensures.count c.if-number-pins.false
    ∙ joined-back 1 1 (c.args.number - c.pin_count-pins.result) (λ _. start) rest refl past
    ∙ joined-back n c.from-labels.result (c.args.number - c.pin_count-pins.result - 1) (bound_clauses g.rows) (instr_block g)
    (c.from-labels.ensures ∙ c.len.ensures) c.if-left-labels.false)
