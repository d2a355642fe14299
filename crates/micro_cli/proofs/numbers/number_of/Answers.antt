use Rattle.micro_cli.proofs.NumberSteps.{parse_wide}
use Rattle.micro_cli.proofs.numbers.number_of.Goals as goal

pub returns-in-Err-clause-wide : goal.returns-in-Err-clause-wide
returns-in-Err-clause-wide c = parse_wide c.args.digits.now c.in-Err.field-0 c.in-Err.ensures.value.0 c.requires.digits c.requires.some
