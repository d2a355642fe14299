use Rattle.std.proofs.Common.{rules}
use Rattle.micro_lex.proofs.DigitValues.{digits_are_hex}
use Rattle.micro_lex.proofs.runs.run_kind.Goals as goal

pub number_kind-requires-clause-digits : goal.number_kind-requires-clause-digits
number_kind-requires-clause-digits c = digits_are_hex c.args.run.now (search (rules, c.if-are_digits.ensures, c.if-are_digits.true))
