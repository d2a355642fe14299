use Rattle.std.proofs.Common.{rules, refl, ◌∙◌, ◌<◌, ◌≤◌}
use Rattle.cpe_slice.specs.FunctionCode.{function_of}
use Rattle.cpe_slice.proofs.Cases.{sum_value, sum_co, logic_value, logic_co, shift_ro, byte_bit, bit_le}
use Rattle.cpe_slice.proofs.slice.Slice.outputs.Goals as goal

pub returns-then-is_shift-clause-ro : goal.returns-then-is_shift-clause-ro
returns-then-is_shift-clause-ro c = shift_ro c.args.f _ _ _ c.if-is_shift.ensures c.source_word-source.ensures.value

pub returns-then-function-lt4-clause-value : goal.returns-then-function-lt4-clause-value
returns-then-function-lt4-clause-value c =
    let low : function_of c.args.f < 4 = search rules in
    sum_value c.args.f _ _ _ _ _ c.if-is_shift.ensures low (c.operands-a.ensures.first c.args.ci c.args.li)
    (c.operands-a.ensures.second c.args.ci c.args.li)
    (c.from-then-function-lt4.ensures ∙ byte_bit c.args.ci)

pub returns-then-function-lt4-clause-co : goal.returns-then-function-lt4-clause-co
returns-then-function-lt4-clause-co c =
    let low : function_of c.args.f < 4 = search rules in
    sum_co c.args.f _ _ _ _ _ c.if-is_shift.ensures low c.operands-a.ensures.below.0 c.operands-a.ensures.below.1 (bit_le c.args.ci)
    (c.operands-a.ensures.first c.args.ci c.args.li) (c.operands-a.ensures.second c.args.ci c.args.li)
    (c.from-then-function-lt4.ensures ∙ byte_bit c.args.ci)

pub returns-else-function-lt4-clause-value : goal.returns-else-function-lt4-clause-value
returns-else-function-lt4-clause-value c =
    let high : 4 ≤ function_of c.args.f = search rules in
    logic_value c.args.f _ _ _ c.if-is_shift.ensures high (c.logic_word.ensures.value c.args.ci c.args.li)

pub returns-else-function-lt4-clause-co : goal.returns-else-function-lt4-clause-co
returns-else-function-lt4-clause-co c =
    let high : 4 ≤ function_of c.args.f = search rules in
    logic_co c.args.f _ _ c.args.ci _ c.if-is_shift.ensures high c.test_word.ensures.below refl
    (c.test_word.ensures.value c.args.ci c.args.li)
