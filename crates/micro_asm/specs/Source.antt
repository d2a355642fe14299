-- What a source is: a program, or its first refused line. The language is this project's own choice.
use Rattle.std.specs.Prelude.{ℕ, ◌+◌, ◌==◌, nat_lt, Bool, false, not, List, [], length, map, find, position, Option, Some, None, unwrap_or, option_map, option_and_then, Result, Ok, Err, if◌then◌else◌}
use Rattle.std.specs.List.{list_any}
use Rattle.std.specs.Str.{bytes_eq}
use Rattle.micro_lex.specs.Lines.{lines}
use Rattle.field_decl.specs.declared.fault.AsmKind.{AsmKind}
use Rattle.field_decl.specs.declared.fault.AsmKind.TheVariants.{Empty, NoStart, UnknownLabel}
use Rattle.field_decl.specs.Declaration.{Declaration}
use Rattle.field_decl.specs.Layout.{completed}
use Rattle.field_decl.specs.LineByLine.{lines_read}
use Rattle.field_decl.specs.Results.{◌>>=◌, in_line}
use Rattle.field_decl.specs.Words.{words_of}
use Rattle.flow_graph.specs.declared.instructions.Instr.{Instr}
use Rattle.flow_graph.specs.declared.pinning.Pin.{Pin}
use Rattle.flow_graph.specs.Graph.{Graph}
use Rattle.micro_asm.specs.declared.accepted_lines.StartLine.{StartLine}
use Rattle.micro_asm.specs.declared.accepted_lines.PinLine.{PinLine}
use Rattle.micro_asm.specs.declared.accepted_lines.NamedInstr.{NamedInstr}
use Rattle.micro_asm.specs.SourceLines.{source_line_form}
use Rattle.micro_asm.specs.Earlier.{Line, Facts, facts_of, has_label}
use Rattle.micro_asm.specs.Judging.{judged}

-- ---- line by line

-- what a line says after these lines, or why it is refused
unfoldable pub line_read : List Line → List ℕ → Result Line AsmKind
line_read earlier line = words_of line >>= source_line_form >>= judged (facts_of earlier) (length earlier + 1)

-- ---- labels that no instruction has

-- a target that names a label which no instruction has
abbrev pub is_unknown : List NamedInstr → Option (List ℕ) → Bool
is_unknown instrs None = false
is_unknown instrs (Some label) = not (has_label instrs label)

-- the line of the start, where it names an unknown label
abbrev pub unknown_start : List NamedInstr → StartLine → Option ℕ
unknown_start instrs start = if has_label instrs start.label then None else Some start.line

-- the line of the first pin that names an unknown label
abbrev pub unknown_pin : List NamedInstr → List PinLine → Option ℕ
unknown_pin instrs pins = option_map (λ pin. pin.line) (find (λ pin. not (has_label instrs pin.label)) pins)

-- the line of the first instruction with an unknown target
abbrev pub unknown_target : List NamedInstr → Option ℕ
unknown_target instrs = option_map (λ instr. instr.line) (find (λ instr. list_any (is_unknown instrs) instr.targets) instrs)

-- the lesser of two lines
abbrev pub first_line : Option ℕ → Option ℕ → Option ℕ
first_line None other = other
first_line (Some line) None = Some line
first_line (Some line) (Some other) = if nat_lt other line then Some other else Some line

-- the first line, a start, a pin or an instruction, that names an unknown label
abbrev pub unknown_line : Facts → StartLine → Option ℕ
unknown_line facts start =
    first_line (unknown_start facts.instrs start) (first_line (unknown_pin facts.instrs facts.pins) (unknown_target facts.instrs))

-- ---- the program

-- the place of the instruction with this name, where there is one
abbrev pub label_place : List NamedInstr → List ℕ → Option ℕ
label_place instrs name = position (λ instr. bytes_eq name instr.label) instrs

-- a pin with its label's number for the name
abbrev pub pin_of : List NamedInstr → PinLine → Pin
pin_of instrs pin = record { label = unwrap_or (label_place instrs pin.label) 0; cell = pin.cell }

-- the place of a target's instruction; none for `-`, the trap
abbrev pub target_place : List NamedInstr → Option (List ℕ) → Option ℕ
target_place instrs target = option_and_then (label_place instrs) target

-- an instruction with its targets' numbers for the names
abbrev pub instr_of : List NamedInstr → NamedInstr → Instr
instr_of instrs instr = record {
  name = instr.label;
  line = instr.line;
  func = instr.func;
  mask = instr.mask;
  ctl = instr.ctl;
  values = instr.values;
  kind = instr.kind;
  targets = map (target_place instrs) instr.targets;
}

-- the graph of what the lines say, with 32 rows where no bound is given
abbrev pub graph_with : Facts → StartLine → Declaration → Graph
graph_with facts start declaration = record {
  decl = declaration;
  rows = unwrap_or facts.rows 32;
  start = unwrap_or (label_place facts.instrs start.label) 0;
  pins = map (pin_of facts.instrs) facts.pins;
  instrs = map (instr_of facts.instrs) facts.instrs;
}

-- the graph as an answer
abbrev pub ok_graph : Facts → StartLine → Declaration → Result Graph (ℕ × AsmKind)
ok_graph facts start declaration = Ok (graph_with facts start declaration)

-- the graph with the completed declaration
abbrev pub built : Facts → StartLine → Result Graph (ℕ × AsmKind)
built facts start = in_line 0 (completed facts.declared) >>= ok_graph facts start

-- the graph, unless a line names an unknown label
abbrev pub unless_unknown : Option ℕ → Result Graph (ℕ × AsmKind) → Result Graph (ℕ × AsmKind)
unless_unknown None graph = graph
unless_unknown (Some line) graph = Err (line, UnknownLabel)

-- the graph, unless there is no start or a line names an unknown label
abbrev pub started : Facts → Option StartLine → Result Graph (ℕ × AsmKind)
started facts None = Err (0, NoStart)
started facts (Some start) = unless_unknown (unknown_line facts start) (built facts start)

-- the program of accepted lines: without instructions and without a start they are refused at line 0
unfoldable pub program_of : Facts → Result Graph (ℕ × AsmKind)
program_of facts = if length facts.instrs == 0 then Err (0, Empty) else started facts facts.start

-- what a source means
abbrev pub source_of : List ℕ → Result Graph (ℕ × AsmKind)
source_of bytes = lines_read line_read [] (lines bytes) >>= λ all. program_of (facts_of all)
