-- The bytes of a line by their use. All of this is this project's own choice.
use Rattle.std.specs.Prelude.{ℕ, Bool, ◌||◌, ◌==◌}
use Rattle.std.specs.Char.{is_ascii_digit, is_ascii_uppercase, is_ascii_lowercase}

-- a byte of a run: an ASCII letter, a digit or an underscore
abbrev pub is_run_byte : ℕ → Bool
is_run_byte b = is_ascii_digit b || is_ascii_uppercase b || is_ascii_lowercase b || b == 95

-- space and tab separate tokens
abbrev pub is_space : ℕ → Bool
is_space b = b == 32 || b == 9

-- `#` begins a comment
abbrev pub is_hash : ℕ → Bool
is_hash b = b == 35
