-- The microword of a cell, for a program and a placement (this project's own choice).
use Rattle.std.specs.Prelude.{ℕ, ◌≡◌, ◌*◌, ◌/◌, List, length, Option, Some, None, IsTrue, slice_get, slice_index}
use Rattle.mcu_jumps.specs.Position.{Position, IsCell, address_of}
use Rattle.mcu_jumps.specs.declared.codes.Code.TheVariants.{Jcc}
use Rattle.mcu_jumps.specs.JumpWord.{JumpWord}
use Rattle.cpe_slice.specs.FunctionCode.{is_shift}
use Rattle.field_decl.specs.Declaration.{Declaration}
use Rattle.field_decl.specs.KBits.{gathered_bits}
use Rattle.flow_graph.specs.declared.instructions.Instr.{Instr}
use Rattle.flow_graph.specs.Graph.{Graph}
use Rattle.flow_graph.specs.Order.{Order, order_of, values_of}
use Rattle.place_model.specs.Cells.{IsAt}
use Rattle.place_model.specs.Legal.{MeetsLegality, IsJumpOf}
use Rattle.prom_split.specs.Parts.{word_by, parts_of}
use Rattle.prom_split.specs.declared.word_parts.WordParts.{WordParts}

-- how many bus bits a K bit of a declaration drives
abbrev pub share_in : Declaration → ℕ
share_in decl = 2 * decl.slices / decl.kbus

-- the parts of a microword that orders this, with these values of the fields and this jump
abbrev pub parts_with : Declaration → Order → List ℕ → JumpWord → WordParts
parts_with decl order values jump = record {
  jump = jump;
  ctl = order.ctl;
  func = order.func;
  kbits = gathered_bits (share_in decl) decl.kbus order.mask;
  values = values;
}

-- the word of an instruction that became this jump, or where there is none of a free cell with this jump
abbrev pub word_with : Declaration → Option Instr → JumpWord → ℕ
word_with decl instr jump = word_by decl (parts_with decl (order_of decl instr) (values_of decl instr) jump)

-- JCC to its own row: the jump of a free cell
abbrev pub free_jump : Position → JumpWord
free_jump cell = record { code = Jcc; operand = cell.row }

-- the word of a free cell
abbrev pub free_word : Declaration → Position → ℕ
free_word decl cell = word_with decl None (free_jump cell)

-- the word is an instruction's, with the jump of least AC value that it may become at this cell
abbrev pub IsInstrWord : Graph → List Position → Instr → Position → ℕ → Type 0
IsInstrWord g place instr cell word = (jump : JumpWord) × IsJumpOf place instr cell jump × (word ≡ word_with g.decl (Some instr) jump)

-- the word of a cell: of the instruction whose label is placed there, or the free cell's
pub record IsWordOf (g : Graph) (place : List Position) (cell : Position) (word : ℕ) : Type 0 where
  pub label : (label : ℕ) (instr : Instr) → slice_get g.instrs label ≡ Some instr → slice_get place label ≡ Some cell
      → IsInstrWord g place instr cell word
  pub free : IsAt place None cell → word ≡ free_word g.decl cell

-- the word at the address of a cell
abbrev pub word_at : List ℕ → Position → ℕ
word_at words cell = slice_index words (address_of cell)

-- the words of all cells, in the order of their addresses
pub record AreWords (g : Graph) (place : List Position) (words : List ℕ) : Type 0 where
  pub count : length words ≡ 512
  pub each : (cell : Position) → IsCell cell → IsWordOf g place cell (word_at words cell)

-- the word is an instruction's, with any jump that it may become at this cell
abbrev pub HoldsInstr : Graph → List Position → Instr → Position → ℕ → Type 0
HoldsInstr g place instr cell word = (jump : JumpWord) × MeetsLegality place instr cell jump × (word ≡ word_with g.decl (Some instr) jump)

-- the words hold each instruction at its label's cell, with any jump that it may become there, and the free
-- cell's word at every other cell
pub record HoldsProgram (g : Graph) (place : List Position) (words : List ℕ) : Type 0 where
  pub count : length words ≡ 512
  pub labels : (label : ℕ) (instr : Instr) (cell : Position) → slice_get g.instrs label ≡ Some instr → slice_get place label ≡ Some cell
      → HoldsInstr g place instr cell (word_at words cell)
  pub free : (cell : Position) → IsCell cell → IsAt place None cell → word_at words cell ≡ free_word g.decl cell

-- no word orders the right shift with K bits other than 0
abbrev pub HasNoBadShift : List ℕ → Declaration → Type 0
HasNoBadShift words decl =
    (cell : Position) → IsCell cell → IsTrue (is_shift (parts_of decl (word_at words cell)).func)
    → (parts_of decl (word_at words cell)).kbits ≡ 0
