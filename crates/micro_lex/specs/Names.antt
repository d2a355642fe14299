-- The bytes of a name (this project's own choice), and where a token lies in its line.
use Rattle.std.specs.Prelude.{◌≡◌, ℕ, ◌<◌, ◌≤◌, false, true, List, length, slice_index, slice_range}
use Rattle.std.specs.List.{list_all}
use Rattle.std.specs.Char.{is_ascii_digit}
use Rattle.micro_lex.specs.declared.token.Token.{Token}
use Rattle.micro_lex.specs.declared.token.TokenKind.TheVariants.{Name}
use Rattle.micro_lex.specs.Alphabet.{is_run_byte}

-- 1 to 32 letters, digits and underscores, of which the first is no digit
pub record IsName (text : List ℕ) : Type 0 where
  pub some : 0 < length text
  pub short : length text ≤ 32
  pub plain : list_all is_run_byte text ≡ true
  pub begins : is_ascii_digit (slice_index text 0) ≡ false

-- a token lies within its line, and the text of a name is a name
pub record IsTokenOf (line : List ℕ) (token : Token) : Type 0 where
  pub ordered : token.start ≤ token.end
  pub within : token.end ≤ length line
  pub named : token.kind ≡ Name → IsName (slice_range line token.start token.end)
