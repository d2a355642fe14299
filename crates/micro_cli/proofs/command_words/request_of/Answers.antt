use Rattle.std.proofs.Common.{◌≡◌, arith, length, map, sym}
use Rattle.std.specs.Prelude.{string_bytes}
use Rattle.std.proofs.lemmas.List.{length-map}
use Rattle.micro_cli.proofs.CommandWords.{no_command}
use Rattle.micro_cli.proofs.command_words.request_of.Goals as goal

pub returns-in_default-clause-command : goal.returns-in_default-clause-command
returns-in_default-clause-command c =
    let words = map string_bytes c.args.words.now in
    let same : length words ≡ length c.args.words.now = length-map c.args.words.now string_bytes in
    sym (no_command words
    (λ is. omega (arith, is, same, c.in_default))
    (λ is. omega (arith, is, same, c.in_default))
    (λ is. omega (arith, is, same, c.in_default))
    (λ is. omega (arith, is, same, c.in_default)))
