-- The layout file: what a text declares, or its first refused line. This is this project's own format.
use Rattle.std.specs.Prelude.{ℕ, List, [], ◌∷◌, Option, Some, None, Result, Ok, Err}
use Rattle.std.specs.List.{filter_map}
use Rattle.micro_lex.specs.Lines.{lines}
use Rattle.field_decl.specs.declared.word.Word.{Word}
use Rattle.field_decl.specs.declared.word.Word.TheVariants.{Name, Colon}
use Rattle.field_decl.specs.declared.directive.Directive.{Directive}
use Rattle.field_decl.specs.declared.fault.AsmKind.{AsmKind}
use Rattle.field_decl.specs.declared.fault.AsmKind.TheVariants as kinds
use Rattle.field_decl.specs.Declaration.{Declaration}
use Rattle.field_decl.specs.Earlier.{Declared, declared_by, declaration_with}
use Rattle.field_decl.specs.Directives.{directive_form}
use Rattle.field_decl.specs.Judging.{refusal}
use Rattle.field_decl.specs.LineByLine.{lines_read}
use Rattle.field_decl.specs.Results.{◌>>=◌, unless_refused, in_line}
use Rattle.field_decl.specs.Words.{words_of}

-- a line with a directive says it
abbrev pub said : Directive → Result (Option Directive) AsmKind
said directive = Ok (Some directive)

-- an empty line says nothing; a name with `:` and any other first word than a directive's name are unknown
abbrev pub line_form : List Word → Result (Option Directive) AsmKind
line_form [] = Ok None
line_form (Name label ∷ Colon ∷ words) = Err kinds.UnknownDirective
line_form (Name name ∷ words) = directive_form name words >>= said
line_form _ = Err kinds.UnknownDirective

-- the directives of the lines that say one
abbrev pub directives_in : List (Option Directive) → List Directive
directives_in lines = filter_map (λ line. line) lines

-- why a line that says this is refused after these lines
abbrev pub line_refusal : List (Option Directive) → Option Directive → Option AsmKind
line_refusal earlier None = None
line_refusal earlier (Some directive) = refusal (declared_by (directives_in earlier)) directive

-- what a line says after these lines, or why it is refused
unfoldable pub line_read : List (Option Directive) → List ℕ → Result (Option Directive) AsmKind
line_read earlier line = words_of line >>= line_form >>= λ read. unless_refused (line_refusal earlier read) read

-- the slices have no default
abbrev pub completed_with : Option ℕ → Declared → Result Declaration AsmKind
completed_with None declared = Err kinds.Slices
completed_with (Some slices) declared = Ok (declaration_with slices declared)

-- the declaration that the lines make, or what they lack
abbrev pub completed : Declared → Result Declaration AsmKind
completed declared = completed_with declared.slices declared

-- what a layout text declares, or the first refused line; a missing slices line is told at line 0
abbrev pub layout_of : List ℕ → Result Declaration (ℕ × AsmKind)
layout_of bytes = lines_read line_read [] (lines bytes) >>= λ read. in_line 0 (completed (declared_by (directives_in read)))
