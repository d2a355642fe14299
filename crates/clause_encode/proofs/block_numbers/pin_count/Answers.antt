use Rattle.std.proofs.Common.{◌≤◌, ◌∙◌, sym, subst, arith, length, List}
use Rattle.flow_graph.specs.declared.pinning.Pin.{Pin}
use Rattle.placement_clauses.proofs.PinLemmas.{few-pins_of}
use Rattle.clause_encode.proofs.block_numbers.pin_count.Goals as goal

pub overflow_cast-result : goal.overflow_cast-result
overflow_cast-result c =
    let few : length c.as_slice.result.now ≤ 512 =
    subst (λ (pins : List Pin). length pins ≤ 512) (sym (c.as_slice.ensures ∙ c.pins.ensures)) (few-pins_of c.args.program.now) in
    omega arith

pub returns-clause-few : goal.returns-clause-few
returns-clause-few c =
    subst (λ (pins : List Pin). length pins ≤ 512) (sym (c.as_slice.ensures ∙ c.pins.ensures)) (few-pins_of c.args.program.now)
