-- The layout read line by line, going from what is declared to what is declared.
use Rattle.std.specs.Prelude.{ℕ, List, Option, Some, None, Result, Ok}
use Rattle.field_decl.specs.declared.directive.Directive.{Directive}
use Rattle.field_decl.specs.declared.fault.AsmKind.{AsmKind}
use Rattle.field_decl.specs.Earlier.{Declared}
use Rattle.field_decl.specs.Judging.{judged}
use Rattle.field_decl.specs.Layout.{line_form}
use Rattle.field_decl.specs.LineByLine.{lines_taken}
use Rattle.field_decl.specs.Results.{◌>>=◌}
use Rattle.field_decl.specs.Words.{words_of}

-- what is declared after a line that says this
abbrev pub line_judged : Declared → Option Directive → Result Declared AsmKind
line_judged declared None = Ok declared
line_judged declared (Some directive) = judged declared directive

-- what is declared after one line more
unfoldable pub after_line : Declared → List ℕ → Result Declared AsmKind
after_line declared line = words_of line >>= line_form >>= line_judged declared

-- what is declared after these lines, of which the first has this number
abbrev pub after_lines : Declared → ℕ → List (List ℕ) → Result Declared (ℕ × AsmKind)
after_lines declared number all = lines_taken (λ state _ line. after_line state line) declared number all
