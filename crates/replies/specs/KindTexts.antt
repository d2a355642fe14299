-- How refusals of lines are called in texts: by their names, a fault of a token with its column
-- (this project's own choice).
use Rattle.std.specs.Prelude.{ℕ, List, ◌++◌, codes, decimal}
use Rattle.field_decl.specs.declared.fault.AsmKind.{AsmKind}
use Rattle.field_decl.specs.declared.fault.AsmKind.TheVariants as asm
use Rattle.bus_script.specs.declared.fault.ScriptKind.{ScriptKind}
use Rattle.bus_script.specs.declared.fault.ScriptKind.TheVariants as script

-- a fault of a token, in a column
abbrev pub in_column : List ℕ → ℕ → List ℕ
in_column kind col = kind ++ codes " col " ++ decimal col

-- why a line of a source or of a layout is refused
abbrev pub asm_text : AsmKind → List ℕ
asm_text (asm.BadByte col) = in_column (codes "BadByte") col
asm_text (asm.BadNumber col) = in_column (codes "BadNumber") col
asm_text (asm.NumberTooWide col) = in_column (codes "NumberTooWide") col
asm_text (asm.NameTooLong col) = in_column (codes "NameTooLong") col
asm_text asm.UnknownDirective = codes "UnknownDirective"
asm_text asm.Shape = codes "Shape"
asm_text asm.Late = codes "Late"
asm_text asm.Slices = codes "Slices"
asm_text asm.KBus = codes "KBus"
asm_text asm.WordTooWide = codes "WordTooWide"
asm_text asm.FieldTwice = codes "FieldTwice"
asm_text asm.FieldWidth = codes "FieldWidth"
asm_text asm.DefaultTooWide = codes "DefaultTooWide"
asm_text asm.Prom = codes "Prom"
asm_text asm.WriteField = codes "WriteField"
asm_text asm.Rows = codes "Rows"
asm_text asm.StartTwice = codes "StartTwice"
asm_text asm.PinRange = codes "PinRange"
asm_text asm.PinTwice = codes "PinTwice"
asm_text asm.LabelTwice = codes "LabelTwice"
asm_text asm.TooMany = codes "TooMany"
asm_text asm.Function = codes "Function"
asm_text asm.Mnemonic = codes "Mnemonic"
asm_text asm.Register = codes "Register"
asm_text asm.MaskShape = codes "MaskShape"
asm_text asm.ShiftMask = codes "ShiftMask"
asm_text asm.FlagName = codes "FlagName"
asm_text asm.SettingTwice = codes "SettingTwice"
asm_text asm.UnknownField = codes "UnknownField"
asm_text asm.FieldValue = codes "FieldValue"
asm_text asm.UnknownFlow = codes "UnknownFlow"
asm_text asm.TargetCount = codes "TargetCount"
asm_text asm.NoTarget = codes "NoTarget"
asm_text asm.Empty = codes "Empty"
asm_text asm.NoStart = codes "NoStart"
asm_text asm.UnknownLabel = codes "UnknownLabel"

-- why a line of a script is refused
abbrev pub script_text : ScriptKind → List ℕ
script_text (script.BadByte col) = in_column (codes "BadByte") col
script_text (script.BadNumber col) = in_column (codes "BadNumber") col
script_text (script.NumberTooWide col) = in_column (codes "NumberTooWide") col
script_text (script.NameTooLong col) = in_column (codes "NameTooLong") col
script_text script.Lines = codes "Lines"
script_text script.Word = codes "Word"
script_text script.Shape = codes "Shape"
script_text script.Value = codes "Value"
script_text script.Twice = codes "Twice"
script_text script.Key = codes "Key"
