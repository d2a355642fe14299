-- What a reader finds that stands at a place where no run goes on.
use Rattle.std.specs.Prelude.{ℕ, ◌+◌, List, drop, Option, Result}
use Rattle.micro_lex.specs.declared.token.Token.{Token}
use Rattle.micro_lex.specs.Faults.{Fault, in_column}
use Rattle.micro_lex.specs.Tokens.{beginning}

-- the token that begins at a place, nothing at a space, or the fault of the place
unfoldable pub token_at : List ℕ → ℕ → Result (Option Token) Fault
token_at line place = in_column (place + 1) (beginning place (drop place line))
