-- A source read line by line, going from what is said to what is said.
use Rattle.std.specs.Prelude.{ℕ, List, Result}
use Rattle.field_decl.specs.declared.fault.AsmKind.{AsmKind}
use Rattle.field_decl.specs.LineByLine.{lines_taken}
use Rattle.field_decl.specs.Results.{◌>>=◌}
use Rattle.field_decl.specs.Words.{words_of}
use Rattle.micro_asm.specs.declared.source_line.SourceLine.{SourceLine}
use Rattle.micro_asm.specs.SourceLines.{source_line_form}
use Rattle.micro_asm.specs.Earlier.{Facts}
use Rattle.micro_asm.specs.Judging.{judged, taken}

-- what is said with a source line more, in the line of this number
abbrev pub after_source_line : Facts → ℕ → SourceLine → Result Facts AsmKind
after_source_line facts number source_line = taken facts (judged facts number source_line)

-- what is said with one line more
unfoldable pub after_line : Facts → ℕ → List ℕ → Result Facts AsmKind
after_line facts number line = words_of line >>= source_line_form >>= after_source_line facts number

-- what is said with these lines, of which the first has this number
abbrev pub after_lines : Facts → ℕ → List (List ℕ) → Result Facts (ℕ × AsmKind)
after_lines facts number all = lines_taken after_line facts number all
