-- Which lines are refused after the earlier ones, and why, and what an accepted line says (this project's own choice).
use Rattle.std.specs.Prelude.{ℕ, ◌||◌, nat_lt, nat_le, Bool, [], length, Option, Some, None, is_some, unwrap_or, Result, Ok, Err, if◌then◌else◌}
use Rattle.mcu_jumps.specs.declared.kinds.Kind.{Kind}
use Rattle.field_decl.specs.declared.fault.AsmKind.{AsmKind}
use Rattle.field_decl.specs.declared.fault.AsmKind.TheVariants as kinds
use Rattle.field_decl.specs.Earlier.{Declared}
use Rattle.field_decl.specs.Judging.{refusal}
use Rattle.field_decl.specs.Results.{◌>>=◌, unless_refused}
use Rattle.micro_asm.specs.declared.source_line.SourceLine.{SourceLine}
use Rattle.micro_asm.specs.declared.source_line.SourceLine.TheVariants as source_lines
use Rattle.micro_asm.specs.declared.written_instruction.WrittenInstr.{WrittenInstr}
use Rattle.micro_asm.specs.declared.accepted_lines.NamedInstr.{NamedInstr}
use Rattle.micro_asm.specs.Operations.{operation_code}
use Rattle.micro_asm.specs.Settings.{settings_refusal, flags_given, values_given}
use Rattle.micro_asm.specs.Flow.{flow_kind}
use Rattle.micro_asm.specs.Earlier.{Line, Nothing, Declares, Rows, Starts, Pins, Instructs, Facts, has_label, is_pinned, with_line}

-- an instruction line came before
abbrev pub is_late : Facts → Bool
is_late facts = nat_lt 0 (length facts.instrs)

-- the code and the mask of the operation, the settings and the kind of the flow statement
abbrev pub named_instr : Declared → ℕ → WrittenInstr → ℕ × ℕ → Kind → NamedInstr
named_instr declared number instruction code kind = record {
  line = number;
  label = instruction.label;
  func = code.0;
  mask = code.1;
  ctl = flags_given instruction.settings;
  values = values_given declared.fields instruction.settings;
  kind = kind;
  targets = instruction.targets;
}

-- what an instruction says on so many slices: the operation, the settings from left to right and the flow are tested
-- in this order
unfoldable pub instruction_read : ℕ → Declared → ℕ → WrittenInstr → Result NamedInstr AsmKind
instruction_read slices declared number instruction =
    operation_code slices (unwrap_or declared.kbus 1) instruction.operation
    >>= λ code. unless_refused (settings_refusal declared.fields [] instruction.settings) code
    >>= λ same. flow_kind instruction.flow instruction.targets
    >>= λ kind. Ok (named_instr declared number instruction code kind)

-- an accepted instruction is an accepted line
abbrev pub instructs : NamedInstr → Result Line AsmKind
instructs instr = Ok (Instructs instr)

-- no slices yet; a label that an instruction has; 128 instructions before; then the instruction itself
abbrev pub instruction_judged : Facts → ℕ → WrittenInstr → Option ℕ → Result Line AsmKind
instruction_judged facts number instruction None = Err kinds.Slices
instruction_judged facts number instruction (Some slices) =
    if has_label facts.instrs instruction.label then Err kinds.LabelTwice
    else if nat_le 128 (length facts.instrs) then Err kinds.TooMany
    else instruction_read slices facts.declared number instruction >>= instructs

-- the first test that a line fails, in the line of this number
unfoldable pub judged : Facts → ℕ → SourceLine → Result Line AsmKind
judged facts number source_lines.Nothing = Ok Nothing
judged facts number (source_lines.Declares directive) =
    if is_late facts then Err kinds.Late
    else unless_refused (refusal facts.declared directive) (Declares directive)
judged facts number (source_lines.Rows rows) =
    if is_late facts then Err kinds.Late
    else if is_some facts.rows || nat_lt rows 1 || nat_lt 32 rows then Err kinds.Rows
    else Ok (Rows rows)
judged facts number (source_lines.Start label) =
    if is_some facts.start then Err kinds.StartTwice
    else Ok (Starts (record { line = number; label = label }))
judged facts number (source_lines.Pin label row col) =
    if nat_lt 31 row || nat_lt 15 col then Err kinds.PinRange
    else if is_pinned facts.pins label then Err kinds.PinTwice
    else Ok (Pins (record { line = number; label = label; cell = record { row = row; col = col } }))
judged facts number (source_lines.Instruct instruction) = instruction_judged facts number instruction facts.declared.slices

-- what is said with an accepted line more
abbrev pub taken : Facts → Result Line AsmKind → Result Facts AsmKind
taken facts (Ok line) = Ok (with_line facts line)
taken facts (Err kind) = Err kind
