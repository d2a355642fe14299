-- The program of a case and the placement that fits it, by the labels' numbers (this project's own choice).
use Rattle.std.specs.Prelude.{ℕ, ◌+◌, ◌*◌, List, [], ◌∷◌, map, Some, None, codes}
use Rattle.mcu_jumps.specs.Position.{Position}
use Rattle.mcu_jumps.specs.declared.kinds.Kind.{Kind}
use Rattle.mcu_jumps.specs.declared.kinds.Kind.TheVariants.{Goto, IfF}
use Rattle.mcu_chip.specs.declared.flags.FlagIn.TheVariants.{Stz, Stc, Hcz}
use Rattle.mcu_chip.specs.declared.flags.FlagOut.TheVariants.{Ff0, Ffc, Ffz, Ff1}
use Rattle.mcu_chip.specs.declared.flags.FlagCtl.{FlagCtl}
use Rattle.field_decl.specs.Declaration.{Declaration}
use Rattle.flow_graph.specs.declared.instructions.Instr.{Instr}
use Rattle.flow_graph.specs.declared.pinning.Pin.{Pin}
use Rattle.flow_graph.specs.Graph.{Graph}
use Rattle.gen_case.specs.declared.choices.Operation.{Operation}
use Rattle.gen_case.specs.declared.choices.Operation.TheVariants.{Ilr, Alr, Inr, Adr, Ldi, Xnr, Sra, Lmi}
use Rattle.gen_case.specs.declared.choices.Flow.{Flow}
use Rattle.gen_case.specs.declared.choices.Flow.TheVariants.{SameRow, SameColumn, OnFlag}
use Rattle.gen_case.specs.declared.choices.Choice.{Choice}
use Rattle.gen_case.specs.Choices.{choice_of}
use Rattle.gen_case.specs.Labels.{labels, pinned_labels, label_name, cell_of, targets_of}

-- 8 slices, 2 K bits, PROMs of 512 words of 4 bits, and the field u of 4 bits, whose default is 0
abbrev pub case_declaration : Declaration
case_declaration = record {
  slices = 8;
  kbus = 2;
  fields = record { name = codes "u"; width = 4; default = 0 } ∷ [];
  prom_words = 512;
  prom_bits = 4;
  write = None;
}

-- the function code of an operation: 16 times the function, and the selector of the register
abbrev pub code_of : Operation → ℕ → ℕ
code_of Ilr register = 16 * 0 + register
code_of Alr register = 16 * 0 + register
code_of Inr register = 16 * 3 + register
code_of Adr register = 16 * 3 + register
code_of Ldi register = 16 * 2 + 15
code_of Xnr register = 16 * 7 + register
code_of Sra register = 16 * 0 + 15
code_of Lmi register = 16 * 1 + register

-- the mask of an operation on 16 bits: all ones, or none
abbrev pub mask_of : Operation → ℕ
mask_of Ilr = 0
mask_of Alr = 65535
mask_of Inr = 0
mask_of Adr = 65535
mask_of Ldi = 65535
mask_of Xnr = 65535
mask_of Sra = 0
mask_of Lmi = 0

-- the flag functions of an operation: flags are held, and the output is 0, where it names none
abbrev pub flags_of : Operation → FlagCtl
flags_of Ilr = record { input = Hcz; output = Ff0 }
flags_of Alr = record { input = Hcz; output = Ff0 }
flags_of Inr = record { input = Hcz; output = Ff1 }
flags_of Adr = record { input = Stc; output = Ff0 }
flags_of Ldi = record { input = Hcz; output = Ff1 }
flags_of Xnr = record { input = Stz; output = Ff0 }
flags_of Sra = record { input = Hcz; output = Ffc }
flags_of Lmi = record { input = Hcz; output = Ffz }

-- the flow statement
abbrev pub kind_of : Flow → Kind
kind_of (SameRow col) = Goto
kind_of (SameColumn row) = Goto
kind_of (OnFlag row) = IfF

-- the instruction of a label, in its line: 4 lines declare, and 112 pin
abbrev pub instr_for : ℕ → Choice → Instr
instr_for label choice = record {
  name = label_name label;
  line = 117 + label;
  func = code_of choice.operation choice.register;
  mask = mask_of choice.operation;
  ctl = flags_of choice.operation;
  values = choice.value ∷ [];
  kind = kind_of choice.flow;
  targets = map (λ target. Some target) (targets_of label choice.flow);
}

-- the instruction of a label of a case
abbrev pub case_instr : ℕ → ℕ → Instr
case_instr number label = instr_for label (choice_of number label)

-- the pin of a label
abbrev pub case_pin : ℕ → Pin
case_pin label = record { label = label; cell = cell_of label }

-- the program of a case: any row will do, and the flow starts at the first label
unfoldable pub case_graph : ℕ → Graph
case_graph number = record {
  decl = case_declaration;
  rows = 32;
  start = 0;
  pins = map case_pin pinned_labels;
  instrs = map (case_instr number) labels;
}

-- the placement of a case: each label at its cell
unfoldable pub case_place : List Position
case_place = map cell_of labels
