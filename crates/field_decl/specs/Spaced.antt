-- A line as it is printed: runs with one space between each two (this project's own format).
use Rattle.std.specs.Prelude.{◌≡◌, ℕ, ◌+◌, ◌<◌, true, List, [], ◌∷◌, ◌++◌, length, Ok}
use Rattle.std.specs.List.{list_all, AllByRecursion}
use Rattle.micro_lex.specs.declared.token.Token.{Token}
use Rattle.micro_lex.specs.declared.token.TokenKind.{TokenKind}
use Rattle.micro_lex.specs.Alphabet.{is_run_byte}
use Rattle.micro_lex.specs.Runs.{run_kind}

-- a run and what it is
abbrev pub Run : Type 0
Run = List ℕ × TokenKind

-- the text is a run, and is read as this kind
pub record IsRun (run : Run) : Type 0 where
  pub some : 0 < length run.0
  pub plain : list_all is_run_byte run.0 ≡ true
  pub reads : run_kind run.0 ≡ Ok run.1

-- each of them is one
abbrev pub AreRuns : List Run → Type 0
AreRuns runs = AllByRecursion IsRun runs

-- each run with a space before it
abbrev pub after_space : List Run → List ℕ
after_space [] = []
after_space (run ∷ runs) = 32 ∷ (run.0 ++ after_space runs)

-- the runs with one space between each two
abbrev pub spaced : List Run → List ℕ
spaced [] = []
spaced (run ∷ runs) = run.0 ++ after_space runs

-- their tokens, the first at this place
abbrev pub tokens_at : ℕ → List Run → List Token
tokens_at place [] = []
tokens_at place (run ∷ runs) =
    record { kind = run.1; start = place; end = place + length run.0 } ∷ tokens_at (place + length run.0 + 1) runs
