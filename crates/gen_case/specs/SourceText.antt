-- The source of a case, line by line (this project's own choice).
use Rattle.std.specs.Prelude.{ℕ, ◌/◌, ◌%◌, List, [], ◌∷◌, ◌++◌, map, Option, Some, None, codes, decimal}
use Rattle.text_pieces.specs.Pieces.{Piece, Space, Colon, Bar, Equals, Name, Number}
use Rattle.text_pieces.specs.PieceLines.{lines_text}
use Rattle.gen_case.specs.declared.choices.Operation.{Operation}
use Rattle.gen_case.specs.declared.choices.Operation.TheVariants.{Ilr, Alr, Inr, Adr, Ldi, Xnr, Sra, Lmi}
use Rattle.gen_case.specs.declared.choices.Flow.{Flow}
use Rattle.gen_case.specs.declared.choices.Flow.TheVariants.{SameRow, SameColumn, OnFlag}
use Rattle.gen_case.specs.declared.choices.Choice.{Choice}
use Rattle.gen_case.specs.Choices.{choice_of}
use Rattle.gen_case.specs.Labels.{labels, pinned_labels, label_name, targets_of}

-- ---- declarations and pins

-- 8 slices
abbrev pub slices_line : List Piece
slices_line = Name (codes "slices") ∷ Space ∷ Number 8 ∷ []

-- 2 K bits
abbrev pub kbus_line : List Piece
kbus_line = Name (codes "kbus") ∷ Space ∷ Number 2 ∷ []

-- a field u of 4 bits, whose default is 0
abbrev pub field_line : List Piece
field_line = Name (codes "field") ∷ Space ∷ Name (codes "u") ∷ Space ∷ Number 4 ∷ Space ∷ Number 0 ∷ []

-- the first label is the start
abbrev pub start_line : List Piece
start_line = Name (codes "start") ∷ Space ∷ Name (label_name 0) ∷ []

-- the declarations and the start
abbrev pub header_lines : List (List Piece)
header_lines = slices_line ∷ kbus_line ∷ field_line ∷ start_line ∷ []

-- a label pinned to its cell
abbrev pub pin_line : ℕ → List Piece
pin_line label = Name (codes "pin") ∷ Space ∷ Name (label_name label) ∷ Space ∷ Number (label / 16) ∷ Space ∷ Number (label % 16) ∷ []

-- ---- instructions

-- the mnemonic of an operation
abbrev pub mnemonic_of : Operation → List ℕ
mnemonic_of Ilr = codes "ILR"
mnemonic_of Alr = codes "ALR"
mnemonic_of Inr = codes "INR"
mnemonic_of Adr = codes "ADR"
mnemonic_of Ldi = codes "LDI"
mnemonic_of Xnr = codes "XNR"
mnemonic_of Sra = codes "SRA"
mnemonic_of Lmi = codes "LMI"

-- R and the number of the register that was drawn
abbrev pub register_name : ℕ → List ℕ
register_name register = codes "R" ++ decimal register

-- the register of an operation: AC for LDI and SRA, else the one that was drawn
abbrev pub operand_of : Operation → ℕ → List ℕ
operand_of Ldi register = codes "AC"
operand_of Sra register = codes "AC"
operand_of operation register = register_name register

-- the flag function of an operation, where it has one
abbrev pub flag_of : Operation → Option (List ℕ)
flag_of Ilr = None
flag_of Alr = None
flag_of Inr = Some (codes "FF1")
flag_of Adr = Some (codes "STC")
flag_of Ldi = Some (codes "FF1")
flag_of Xnr = Some (codes "STZ")
flag_of Sra = Some (codes "FFC")
flag_of Lmi = Some (codes "FFZ")

-- the name of a flow statement
abbrev pub statement_of : Flow → List ℕ
statement_of (SameRow col) = codes "goto"
statement_of (SameColumn row) = codes "goto"
statement_of (OnFlag row) = codes "iff"

-- a flag function with a space before it
abbrev pub flag_pieces : Option (List ℕ) → List Piece
flag_pieces None = []
flag_pieces (Some flag) = Space ∷ Name flag ∷ []

-- each target with a space before it
abbrev pub target_pieces : List ℕ → List Piece
target_pieces [] = []
target_pieces (target ∷ targets) = Space ∷ Name (label_name target) ∷ target_pieces targets

-- what follows the operation and its flag function: the field, and the flow statement with its targets
abbrev pub flow_pieces : ℕ → ℕ → Flow → List Piece
flow_pieces value label flow =
    Space ∷ Name (codes "u") ∷ Equals ∷ Number value ∷ Space ∷ Bar ∷ Space ∷ Name (statement_of flow) ∷ target_pieces
    (targets_of label flow)

-- the instruction of a label
abbrev pub instruction_line : ℕ → Choice → List Piece
instruction_line label choice =
    Name (label_name label) ∷ Colon ∷ Space ∷ Name (mnemonic_of choice.operation) ∷ Space ∷ Name
    (operand_of choice.operation choice.register)
    ∷ (flag_pieces (flag_of choice.operation) ++ flow_pieces choice.value label choice.flow)

-- the instruction of a label of a case
abbrev pub case_line : ℕ → ℕ → List Piece
case_line number label = instruction_line label (choice_of number label)

-- ---- the whole source

-- the declarations, a pin for each pinned label, an instruction for each label
abbrev pub source_lines : ℕ → List (List Piece)
source_lines number = header_lines ++ (map pin_line pinned_labels ++ map (case_line number) labels)

-- the source of a case
unfoldable pub source_text : ℕ → List ℕ
source_text number = lines_text (source_lines number)
