-- When the microword of an instruction fits a declaration (this project's own choice, with the 3002's right shift).
use Rattle.std.specs.Prelude.{ℕ, ◌≡◌, ◌^◌, ◌<◌, List, length, Some, slice_get, IsTrue}
use Rattle.cpe_slice.specs.FunctionCode.{is_shift}
use Rattle.field_decl.specs.Declaration.{Declaration}
use Rattle.field_decl.specs.KBits.{has_kbits}
use Rattle.field_decl.specs.declared.field.Field.{Field}
use Rattle.flow_graph.specs.declared.instructions.Instr.{Instr}

-- there is a value for each field, and the field holds it
pub record AreValues (fields : List Field) (values : List ℕ) : Type 0 where
  pub value_for_each : length values ≡ length fields
  pub held : (place value : ℕ) (field : Field) → slice_get fields place ≡ Some field → slice_get values place ≡ Some value
      → value < 2 ^ field.width

-- an instruction of this declaration: its function code has seven bits, some K bits give its mask, and that of the right
-- shift is 0
pub record FitsDeclaration (decl : Declaration) (instr : Instr) : Type 0 where
  pub function : instr.func < 128
  pub kbits : IsTrue (has_kbits decl.slices decl.kbus instr.mask)
  pub shift : IsTrue (is_shift instr.func) → instr.mask ≡ 0
  pub values : AreValues decl.fields instr.values

-- all instructions are of this declaration
pub record AllFitDeclaration (decl : Declaration) (instrs : List Instr) : Type 0 where
  pub each : (label : ℕ) (instr : Instr) → slice_get instrs label ≡ Some instr → FitsDeclaration decl instr
