-- What the accepted lines of a source say (this project's own choice).
use Rattle.std.specs.Prelude.{◌≡◌, ℕ, ◌≤◌, ◌<◌, List, [], ◌∷◌, ◌++◌, length, map, All, Bool, true, not, ◌&&◌, Option, Some, None, IsTrue, unwrap_or}
use Rattle.std.specs.List.{filter_map, list_any}
use Rattle.std.specs.Str.{bytes_eq}
use Rattle.cpe_slice.specs.FunctionCode.{is_shift}
use Rattle.micro_lex.specs.Names.{IsName}
use Rattle.field_decl.specs.declared.directive.Directive.{Directive}
use Rattle.field_decl.specs.Declaration.{Declaration}
use Rattle.field_decl.specs.Earlier.{Declared, declared_by, declaration_with, with_directive, first, given_or}
use Rattle.field_decl.specs.KBits.{has_kbits}
use Rattle.flow_graph.specs.Microwords.{AreValues}
use Rattle.micro_asm.specs.declared.accepted_lines.StartLine.{StartLine}
use Rattle.micro_asm.specs.declared.accepted_lines.PinLine.{PinLine}
use Rattle.micro_asm.specs.declared.accepted_lines.NamedInstr.{NamedInstr}
use Rattle.micro_asm.specs.Flow.{AreTargetsOf}

-- an accepted line
pub data Line : Type 0 where
  Nothing : Line
  Declares : Directive → Line
  Rows : ℕ → Line
  Starts : StartLine → Line
  Pins : PinLine → Line
  Instructs : NamedInstr → Line

-- what was declared, the row bound and the start where they are given, and the pins and instructions in source order
pub record Facts : Type 0 where
  pub declared : Declared
  pub rows : Option ℕ
  pub start : Option StartLine
  pub pins : List PinLine
  pub instrs : List NamedInstr

-- ---- each part, of the list of the lines

-- the directive, where the line declares
abbrev pub directive_in : Line → Option Directive
directive_in (Declares directive) = Some directive
directive_in _ = None

-- the row bound, where the line gives it
abbrev pub rows_in : Line → Option ℕ
rows_in (Rows rows) = Some rows
rows_in _ = None

-- the start, where the line names it
abbrev pub start_in : Line → Option StartLine
start_in (Starts start) = Some start
start_in _ = None

-- the pin, where the line pins
abbrev pub pin_in : Line → Option PinLine
pin_in (Pins pin) = Some pin
pin_in _ = None

-- the instruction, where the line has one
abbrev pub instr_in : Line → Option NamedInstr
instr_in (Instructs instr) = Some instr
instr_in _ = None

-- what these lines say
abbrev pub facts_of : List Line → Facts
facts_of earlier = record {
  declared = declared_by (filter_map directive_in earlier);
  rows = first (filter_map rows_in earlier);
  start = first (filter_map start_in earlier);
  pins = filter_map pin_in earlier;
  instrs = filter_map instr_in earlier;
}

-- ---- what one line more adds

-- what is said with one line more
abbrev pub with_line : Facts → Line → Facts
with_line facts Nothing = facts
with_line facts (Declares directive) = record facts { declared = with_directive facts.declared directive }
with_line facts (Rows rows) = record facts { rows = given_or facts.rows rows }
with_line facts (Starts start) = record facts { start = given_or facts.start start }
with_line facts (Pins pin) = record facts { pins = facts.pins ++ pin ∷ [] }
with_line facts (Instructs instr) = record facts { instrs = facts.instrs ++ instr ∷ [] }

-- ---- labels

-- an instruction has this label
abbrev pub has_label : List NamedInstr → List ℕ → Bool
has_label instrs name = list_any (λ instr. bytes_eq name instr.label) instrs

-- a pin names this label
abbrev pub is_pinned : List PinLine → List ℕ → Bool
is_pinned pins name = list_any (λ pin. bytes_eq name pin.label) pins

-- no two of these names are one
abbrev pub are_apart : List (List ℕ) → Bool
are_apart [] = true
are_apart (name ∷ names) = not (list_any (bytes_eq name) names) && are_apart names

-- the labels of the instructions, in order
abbrev pub labels_of : List NamedInstr → List (List ℕ)
labels_of instrs = map (λ instr. instr.label) instrs

-- the labels of the pins, in order
abbrev pub pinned_labels : List PinLine → List (List ℕ)
pinned_labels pins = map (λ pin. pin.label) pins

-- ---- what accepted lines keep

-- an instruction of this declaration
pub record IsNamedInstr (decl : Declaration) (instr : NamedInstr) : Type 0 where
  pub name : IsName instr.label
  pub function : instr.func < 128
  pub kbits : IsTrue (has_kbits decl.slices decl.kbus instr.mask)
  pub shift : IsTrue (is_shift instr.func) → instr.mask ≡ 0
  pub values : AreValues decl.fields instr.values
  pub targets : AreTargetsOf instr.kind instr.targets

-- what was declared so far, with one slice where none are given yet
abbrev pub declaration_so_far : Declared → Declaration
declaration_so_far declared = declaration_with (unwrap_or declared.slices 1) declared

-- a row bound of the matrix, at most 128 instructions of the declaration, no label twice, and none pinned twice
pub record IsSound (facts : Facts) : Type 0 where
  pub some_row : 1 ≤ unwrap_or facts.rows 32
  pub most_rows : unwrap_or facts.rows 32 ≤ 32
  pub few : length facts.instrs ≤ 128
  pub labels_apart : are_apart (labels_of facts.instrs) ≡ true
  pub pins_apart : are_apart (pinned_labels facts.pins) ≡ true
  pub instrs : All (IsNamedInstr (declaration_so_far facts.declared)) facts.instrs
