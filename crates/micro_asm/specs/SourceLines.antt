-- What a line of a source says, by its form alone. The language is this project's own choice.
use Rattle.std.specs.Prelude.{◌≡◌, ◌<◌, ℕ, List, [], ◌∷◌, ◌++◌, length, map, Bool, true, false, Option, Some, None, Result, Ok, Err, codes, if◌then◌else◌}
use Rattle.std.specs.List.{list_all}
use Rattle.std.specs.Str.{bytes_eq}
use Rattle.field_decl.specs.declared.word.Word.{Word}
use Rattle.field_decl.specs.declared.word.Word.TheVariants as words
use Rattle.field_decl.specs.declared.directive.Directive.{Directive}
use Rattle.field_decl.specs.declared.fault.AsmKind.{AsmKind}
use Rattle.field_decl.specs.declared.fault.AsmKind.TheVariants as kinds
use Rattle.field_decl.specs.Directives.{directive_form}
use Rattle.field_decl.specs.Results.{◌>>=◌}
use Rattle.micro_asm.specs.declared.source_line.SourceLine.{SourceLine}
use Rattle.micro_asm.specs.declared.source_line.SourceLine.TheVariants.{Nothing, Declares, Rows, Start, Pin, Instruct}
use Rattle.micro_asm.specs.declared.operation.Operation.{Operation}
use Rattle.micro_asm.specs.declared.operation.Operation.TheVariants.{Mnemonic, Code}
use Rattle.micro_asm.specs.declared.setting.Setting.{Setting}
use Rattle.micro_asm.specs.declared.setting.Setting.TheVariants.{Flag, Value}

-- ---- the operation at the front of some words, and the words behind it

-- GROUP REGISTER MASK behind `fn FUNCTION`
abbrev pub code_form : ℕ → List Word → Option (Operation × List Word)
code_form function (words.Number group ∷ words.Name register ∷ words.Number mask ∷ rest) = Some (Code function group register mask, rest)
code_form function _ = None

-- `fn` and a number begin a function code; any other two names are a mnemonic and a register
abbrev pub operation_form : List Word → Option (Operation × List Word)
operation_form (words.Name name ∷ words.Number function ∷ rest) = if bytes_eq name (codes "fn") then code_form function rest else None
operation_form (words.Name mnemonic ∷ words.Name register ∷ rest) = Some (Mnemonic mnemonic register, rest)
operation_form _ = None

-- ---- the settings at the front of some words, and the words behind them

-- settings before others
abbrev pub with_settings : List Setting → List Setting × List Word → List Setting × List Word
with_settings front read = (front ++ read.0, read.1)

-- FIELD = NUMBER, or the name of a flag function
unfoldable pub settings_form : List Word → List Setting × List Word
settings_form (words.Name name ∷ words.Equals ∷ words.Number value ∷ rest) = with_settings (Value name value ∷ []) (settings_form rest)
settings_form (words.Name name ∷ rest) = with_settings (Flag name ∷ []) (settings_form rest)
settings_form rest = ([], rest)

-- the first setting, and the words behind it
pub record IsFirstSetting (all : List Word) (setting : Setting) (rest : List Word) : Type 0 where
  pub reads : settings_form all ≡ with_settings (setting ∷ []) (settings_form rest)
  pub shorter : length rest < length all

-- ---- the flow statement

-- a target is a label or `-`
abbrev pub is_target : Word → Bool
is_target (words.Name label) = true
is_target words.Minus = true
is_target _ = false

-- the label of a target, and none for `-`
abbrev pub target_of : Word → Option (List ℕ)
target_of (words.Name label) = Some label
target_of _ = None

-- `|` FLOW TARGETS, behind an operation and its settings
abbrev pub flow_form : List ℕ → Operation → List Setting → List Word → Result SourceLine AsmKind
flow_form label operation settings (words.Bar ∷ words.Name flow ∷ targets) =
    if list_all is_target targets then Ok
    (Instruct (record { label = label; operation = operation; settings = settings; flow = flow; targets = map target_of targets }))
    else Err kinds.Shape
flow_form label operation settings _ = Err kinds.Shape

-- ---- the lines

-- what follows an operation, where there is one
abbrev pub behind_operation : List ℕ → Option (Operation × List Word) → Result SourceLine AsmKind
behind_operation label None = Err kinds.Shape
behind_operation label (Some read) = flow_form label read.0 (settings_form read.1).0 (settings_form read.1).1

-- LABEL : OPERATION SETTINGS | FLOW TARGETS
abbrev pub instruction_form : List ℕ → List Word → Result SourceLine AsmKind
instruction_form label rest = behind_operation label (operation_form rest)

-- the line `rows NUMBER`
abbrev pub rows_form : List Word → Result SourceLine AsmKind
rows_form (words.Number rows ∷ []) = Ok (Rows rows)
rows_form _ = Err kinds.Shape

-- the line `start LABEL`
abbrev pub start_form : List Word → Result SourceLine AsmKind
start_form (words.Name label ∷ []) = Ok (Start label)
start_form _ = Err kinds.Shape

-- the line `pin LABEL ROW COLUMN`
abbrev pub pin_form : List Word → Result SourceLine AsmKind
pin_form (words.Name label ∷ words.Number row ∷ words.Number col ∷ []) = Ok (Pin label row col)
pin_form _ = Err kinds.Shape

-- a directive of a declaration is a line of the source
abbrev pub declares : Directive → Result SourceLine AsmKind
declares directive = Ok (Declares directive)

-- a line that begins with a name and no `:`: the directives of sources alone, and those of declarations
unfoldable pub named_form : List ℕ → List Word → Result SourceLine AsmKind
named_form name rest =
    if bytes_eq name (codes "rows") then rows_form rest
    else if bytes_eq name (codes "start") then start_form rest
    else if bytes_eq name (codes "pin") then pin_form rest
    else directive_form name rest >>= declares

-- an empty line says nothing; a name and `:` begin an instruction
abbrev pub source_line_form : List Word → Result SourceLine AsmKind
source_line_form [] = Ok Nothing
source_line_form (words.Name label ∷ words.Colon ∷ rest) = instruction_form label rest
source_line_form (words.Name name ∷ rest) = named_form name rest
source_line_form _ = Err kinds.UnknownDirective
