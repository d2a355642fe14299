-- What an instruction of a case is read as, after the declarations of a case.
use Rattle.std.proofs.Common.{◌≡◌, ℕ, ◌+◌, ◌-◌, ◌<◌, true, List, [], ◌∷◌, Option, Some, None, Result, Ok, refl, ap, ◌∙◌, arith}
use Rattle.std.specs.Prelude.{codes}
use Rattle.std.specs.Char.{is_ascii_digit}
use Rattle.std.proofs.lemmas.Bool.{lt-leb}
use Rattle.std.proofs.lemmas.Fmt.{decimal_digit}
use Rattle.cpe_slice.specs.declared.register.Reg.{Reg}
use Rattle.cpe_slice.specs.declared.register.Reg.TheVariants.{R, Ac}
use Rattle.mcu_jumps.specs.declared.kinds.Kind.{Kind}
use Rattle.mcu_chip.specs.declared.flags.FlagCtl.{FlagCtl}
use Rattle.field_decl.specs.declared.fault.AsmKind.{AsmKind}
use Rattle.field_decl.specs.Earlier.{Declared}
use Rattle.field_decl.specs.KBits.{spread_bits, gathered_bits}
use Rattle.field_decl.specs.Results.{◌>>=◌, unless_refused}
use Rattle.micro_asm.specs.declared.accepted_lines.NamedInstr.{NamedInstr}
use Rattle.micro_asm.specs.declared.operation.Operation.TheVariants.{Mnemonic}
use Rattle.micro_asm.specs.Flow.{kind_named, flow_kind}
use Rattle.micro_asm.specs.Judging.{instruction_read, named_instr}
use Rattle.micro_asm.specs.Operations.{register_named, operation_code}
use Rattle.micro_asm.specs.Settings.{settings_refusal, input_given, output_given, value_given, flags_given, values_given}
use Rattle.gen_case.specs.declared.choices.Operation.{Operation}
use Rattle.gen_case.specs.declared.choices.Operation.TheVariants.{Ilr, Alr, Inr, Adr, Ldi, Xnr, Sra, Lmi}
use Rattle.gen_case.specs.declared.choices.Flow.{Flow}
use Rattle.gen_case.specs.declared.choices.Flow.TheVariants.{SameRow, SameColumn, OnFlag}
use Rattle.gen_case.specs.declared.choices.Choice.{Choice}
use Rattle.gen_case.specs.CaseProgram.{case_declaration, code_of, mask_of, flags_of, kind_of}
use Rattle.gen_case.specs.Choices.{IsChoice}
use Rattle.gen_case.specs.Labels.{label_name}
use Rattle.gen_case.specs.SourceText.{mnemonic_of, register_name, operand_of, flag_of, statement_of}
use Rattle.gen_case.proofs.LineForms.{settings_with, target_names, written_for}

-- what a case declares
abbrev pub declared_case : Declared
declared_case = record { slices = Some 8; kbus = Some 2; fields = case_declaration.fields; prom = None; write = None }

-- ---- registers and operations

-- a digit's byte is a digit
digit_byte : (register : ℕ) → register < 10 → is_ascii_digit (48 + register) ≡ true
digit_byte register small = grind arith

-- a register that is found
abbrev some_register : ℕ → Option Reg
some_register register = Some (R register)

-- a register is read by its number
register_read : (register : ℕ) → register < 10 → register_named (register_name register) ≡ Some (R register)
unfolding register_named
register_read register small =
    let back : 48 + register - 48 ≡ register = omega arith in
    rw (decimal_digit register small, digit_byte register small) (ap some_register back)

-- and so is AC
ac_read : register_named (codes "AC") ≡ Some Ac
unfolding register_named
ac_read = refl

-- the code and the mask of each operation
operation_read : (operation : Operation) (register : ℕ) → register < 10
    → operation_code 8 2 (Mnemonic (mnemonic_of operation) (operand_of operation register)) ≡ Ok
    (code_of operation register, mask_of operation)
unfolding operation_code spread_bits gathered_bits
operation_read Ilr register small = rw (register_read register small) refl
operation_read Alr register small = rw (register_read register small) refl
operation_read Inr register small = rw (register_read register small) refl
operation_read Adr register small = rw (register_read register small) refl
operation_read Ldi register small = rw ac_read refl
operation_read Xnr register small = rw (register_read register small) refl
operation_read Sra register small = rw ac_read refl
operation_read Lmi register small = rw (register_read register small) refl

-- ---- settings and flow

-- no setting is refused
settings_accepted : (operation : Operation) (value : ℕ) → value < 16
    → settings_refusal declared_case.fields [] (settings_with (flag_of operation) value) ≡ None
unfolding settings_refusal
settings_accepted Ilr value small = rw (lt-leb 16 value small) refl
settings_accepted Alr value small = rw (lt-leb 16 value small) refl
settings_accepted Inr value small = rw (lt-leb 16 value small) refl
settings_accepted Adr value small = rw (lt-leb 16 value small) refl
settings_accepted Ldi value small = rw (lt-leb 16 value small) refl
settings_accepted Xnr value small = rw (lt-leb 16 value small) refl
settings_accepted Sra value small = rw (lt-leb 16 value small) refl
settings_accepted Lmi value small = rw (lt-leb 16 value small) refl

-- the flag functions that are set
flags_read : (operation : Operation) (value : ℕ) → flags_given (settings_with (flag_of operation) value) ≡ flags_of operation
unfolding input_given output_given
flags_read Ilr value = refl
flags_read Alr value = refl
flags_read Inr value = refl
flags_read Adr value = refl
flags_read Ldi value = refl
flags_read Xnr value = refl
flags_read Sra value = refl
flags_read Lmi value = refl

-- the value of the field
value_read : (operation : Operation) (value : ℕ)
    → values_given declared_case.fields (settings_with (flag_of operation) value) ≡ value ∷ []
unfolding value_given
value_read Ilr value = refl
value_read Alr value = refl
value_read Inr value = refl
value_read Adr value = refl
value_read Ldi value = refl
value_read Xnr value = refl
value_read Sra value = refl
value_read Lmi value = refl

-- a kind as an answer
abbrev ok_kind : Kind → Result Kind AsmKind
ok_kind kind = Ok kind

-- the flow statement
flow_read : (label : ℕ) (flow : Flow) → flow_kind (statement_of flow) (target_names label flow) ≡ ok_kind (kind_of flow)
unfolding kind_named
flow_read label (SameRow col) = refl
flow_read label (SameColumn row) = refl
flow_read label (OnFlag row) = refl

-- ---- the instruction

-- an instruction with names for its targets, in the line of a number
abbrev pub named_for : ℕ → ℕ → Choice → NamedInstr
named_for number label choice = record {
  line = number;
  label = label_name label;
  func = code_of choice.operation choice.register;
  mask = mask_of choice.operation;
  ctl = flags_of choice.operation;
  values = choice.value ∷ [];
  kind = kind_of choice.flow;
  targets = target_names label choice.flow;
}

-- an instruction of a choice with these flag functions and values, as an answer
abbrev read_as : ℕ → ℕ → Choice → FlagCtl → List ℕ → Result NamedInstr AsmKind
read_as number label choice ctl values = Ok (record {
  line = number;
  label = label_name label;
  func = code_of choice.operation choice.register;
  mask = mask_of choice.operation;
  ctl = ctl;
  values = values;
  kind = kind_of choice.flow;
  targets = target_names label choice.flow;
})

-- an instruction of a choice is read as what the choice says
pub instr_reads : (number label : ℕ) (choice : Choice) → IsChoice choice
    → instruction_read 8 declared_case number (written_for label choice) ≡ Ok (named_for number label choice)
unfolding instruction_read
instr_reads number label choice is =
    let instruction = written_for label choice in
    let code : ℕ × ℕ = (code_of choice.operation choice.register, mask_of choice.operation) in
    ap (λ (r : Result (ℕ × ℕ) AsmKind). r >>= λ code. unless_refused (settings_refusal declared_case.fields [] instruction.settings) code
    >>= λ same. flow_kind instruction.flow instruction.targets >>= λ kind. Ok (named_instr declared_case number instruction code kind))
    (operation_read choice.operation choice.register is.register)
    ∙ ap (λ (why : Option AsmKind). unless_refused why code
    >>= λ same. flow_kind instruction.flow instruction.targets >>= λ kind. Ok (named_instr declared_case number instruction code kind))
    (settings_accepted choice.operation choice.value is.value)
    ∙ ap (λ (r : Result Kind AsmKind). r >>= λ kind. Ok (named_instr declared_case number instruction code kind))
    (flow_read label choice.flow)
    ∙ ap (λ (ctl : FlagCtl). read_as number label choice ctl (values_given declared_case.fields instruction.settings))
    (flags_read choice.operation choice.value)
    ∙ ap (read_as number label choice (flags_of choice.operation)) (value_read choice.operation choice.value)
