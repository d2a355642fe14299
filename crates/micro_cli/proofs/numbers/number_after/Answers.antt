use Rattle.std.proofs.Common.{◌++◌, ap, sym, ◌∙◌}
use Rattle.micro_cli.proofs.NumberSteps.{number_after_there, number_after_absent}
use Rattle.micro_cli.proofs.numbers.number_after.Goals as goal

pub returns-in-Some : goal.returns-in-Some
returns-in-Some c =
    let found = c.in-Some.ensures.cases in
    c.number_up_to.ensures
    ∙ sym (number_after_there c.args.key.now c.args.limit c.args.word.now c.in-Some.digits.now
    (found.1.1 ∙ ap (λ rest. c.args.key.now ++ rest) (sym found.2)))

pub returns-in-None : goal.returns-in-None
returns-in-None c = sym (number_after_absent c.args.key.now c.args.limit c.args.word.now c.in-None.ensures.cases)
