-- The lines of a case can be read, and what their words say.
use Rattle.std.proofs.Common.{◌≡◌, ℕ, ◌/◌, ◌%◌, ◌<◌, false, List, [], ◌∷◌, ◌++◌, Option, Some, None, Result, Ok, refl, arith}
use Rattle.std.specs.Prelude.{codes, map}
use Rattle.std.specs.List.{AllByRecursion}
use Rattle.field_decl.specs.declared.fault.AsmKind.{AsmKind}
use Rattle.micro_asm.specs.declared.operation.Operation.TheVariants.{Mnemonic}
use Rattle.micro_asm.specs.declared.setting.Setting.{Setting}
use Rattle.micro_asm.specs.declared.setting.Setting.TheVariants.{Flag, Value}
use Rattle.micro_asm.specs.declared.source_line.SourceLine.{SourceLine}
use Rattle.micro_asm.specs.declared.source_line.SourceLine.TheVariants.{Pin, Instruct}
use Rattle.micro_asm.specs.declared.written_instruction.WrittenInstr.{WrittenInstr}
use Rattle.micro_asm.specs.SourceLines.{source_line_form, settings_form, named_form}
use Rattle.text_pieces.specs.Pieces.{Piece, Space, Colon, Name, begins_run, words_in, AreReadable}
use Rattle.gen_case.specs.declared.choices.Flow.{Flow}
use Rattle.gen_case.specs.declared.choices.Flow.TheVariants.{SameRow, SameColumn, OnFlag}
use Rattle.gen_case.specs.declared.choices.Choice.{Choice}
use Rattle.gen_case.specs.Choices.{IsFlow, IsChoice}
use Rattle.gen_case.specs.Labels.{label_name, targets_of}
use Rattle.gen_case.specs.SourceText.{pin_line, mnemonic_of, operand_of, flag_of, statement_of, flag_pieces, target_pieces, flow_pieces, instruction_line}
use Rattle.gen_case.proofs.CaseNames.{tested_name, label_is_name, mnemonic_is_name, operand_is_name, flag_is_name, IsFlagName, statement_is_name}

-- ---- targets

-- each target is a label of a case
pub targets_below : (label : ℕ) (flow : Flow) → label < 128 → IsFlow flow
    → AllByRecursion (λ target. target < 128) (targets_of label flow)
targets_below label (SameRow col) small range = (omega arith, tt)
targets_below label (SameColumn row) small range = (omega arith, tt)
targets_below label (OnFlag row) small range = (omega arith, (omega arith, tt))

-- ---- lines that can be read

-- the targets can be read, and a space comes first
record IsTail (pieces : List Piece) : Type 0 where
  apart : begins_run pieces ≡ false
  readable : AreReadable pieces

-- targets can be read
targets_readable : (targets : List ℕ) → AllByRecursion (λ target. target < 128) targets → IsTail (target_pieces targets)
targets_readable [] h = record { apart = refl; readable = tt }
targets_readable (target ∷ targets) h =
    let more = targets_readable targets h.1 in
    record { apart = refl; readable = (label_is_name target h.0, more.apart, more.readable) }

-- the field and the flow statement can be read
flow_readable : (value label : ℕ) (flow : Flow) → value < 16 → label < 128 → IsFlow flow → AreReadable (flow_pieces value label flow)
flow_readable value label flow small is_label range =
    let targets = targets_readable (targets_of label flow) (targets_below label flow is_label range) in
    (tested_name (codes "u") refl refl refl refl, refl, (omega arith, refl, (statement_is_name flow, targets.apart, targets.readable)))

-- with a flag function or none before them
flag_readable : (flag : Option (List ℕ)) (rest : List Piece) → IsFlagName flag → AreReadable (Space ∷ rest)
    → IsTail (flag_pieces flag ++ Space ∷ rest)
flag_readable None rest h more = record { apart = refl; readable = more }
flag_readable (Some flag) rest h more = record { apart = refl; readable = (h, refl, more) }

-- an instruction can be read
pub instruction_readable : (label : ℕ) (choice : Choice) → label < 128 → IsChoice choice → AreReadable (instruction_line label choice)
instruction_readable label choice small is =
    let tail = flag_readable (flag_of choice.operation) _ (flag_is_name choice.operation)
    (flow_readable choice.value label choice.flow is.value small is.flow) in (
      label_is_name label small,
      refl,
      (
        mnemonic_is_name choice.operation,
        refl,
        (operand_is_name choice.operation choice.register is.register, tail.apart, tail.readable),
      ),
    )

-- a pin can be read
pub pin_readable : (label : ℕ) → label < 128 → AreReadable (pin_line label)
pin_readable label small =
    (tested_name (codes "pin") refl refl refl refl, refl, (label_is_name label small, refl, (omega arith, refl, (omega arith, refl, tt))))

-- ---- what the words say

-- a form as an answer
abbrev says : SourceLine → Result SourceLine AsmKind
says line = Ok line

-- a pin
pub pin_form : (label : ℕ) → source_line_form (words_in (pin_line label)) ≡ says (Pin (label_name label) (label / 16) (label % 16))
unfolding named_form
pin_form label = refl

-- the settings: a flag function or none, and the field
abbrev pub settings_with : Option (List ℕ) → ℕ → List Setting
settings_with None value = Value (codes "u") value ∷ []
settings_with (Some flag) value = Flag flag ∷ Value (codes "u") value ∷ []

-- the targets by their names
abbrev pub target_names : ℕ → Flow → List (Option (List ℕ))
target_names label flow = map (λ target. Some (label_name target)) (targets_of label flow)

-- an instruction as its words say it
abbrev pub written : ℕ → List ℕ → List ℕ → Option (List ℕ) → ℕ → Flow → WrittenInstr
written label mnemonic operand flag value flow = record {
  label = label_name label;
  operation = Mnemonic mnemonic operand;
  settings = settings_with flag value;
  flow = statement_of flow;
  targets = target_names label flow;
}

-- what the words of an instruction say
words_say : (label value : ℕ) (mnemonic operand : List ℕ) (flag : Option (List ℕ)) (flow : Flow)
    → source_line_form (words_in
    (Name (label_name label)
    ∷ Colon ∷ Space ∷ Name mnemonic ∷ Space ∷ Name operand ∷ (flag_pieces flag ++ flow_pieces value label flow)))
    ≡ says (Instruct (written label mnemonic operand flag value flow))
unfolding settings_form
words_say label value mnemonic operand None (SameRow col) = refl
words_say label value mnemonic operand None (SameColumn row) = refl
words_say label value mnemonic operand None (OnFlag row) = refl
words_say label value mnemonic operand (Some flag) (SameRow col) = refl
words_say label value mnemonic operand (Some flag) (SameColumn row) = refl
words_say label value mnemonic operand (Some flag) (OnFlag row) = refl

-- an instruction of a choice as its words say it
abbrev pub written_for : ℕ → Choice → WrittenInstr
written_for label choice =
    written label (mnemonic_of choice.operation) (operand_of choice.operation choice.register) (flag_of choice.operation)
    choice.value choice.flow

-- what the words of a choice's instruction say
pub instruction_form : (label : ℕ) (choice : Choice)
    → source_line_form (words_in (instruction_line label choice)) ≡ says (Instruct (written_for label choice))
instruction_form label choice =
    words_say label choice.value (mnemonic_of choice.operation) (operand_of choice.operation choice.register) (flag_of choice.operation)
    choice.flow
