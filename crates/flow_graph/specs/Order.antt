-- What a microword orders of slices, flags and memory, whatever comes next. The write field and the free cell are this
-- project's own choice. The Rust type of an order is in the crate `flow_sim`.
use Rattle.std.specs.Prelude.{ℕ, ◌==◌, Bool, false, List, map, Option, None, Some, slice_get}
use Rattle.mcu_chip.specs.declared.flags.FlagCtl.{FlagCtl}
use Rattle.mcu_chip.specs.declared.flags.FlagIn.TheVariants.{Hcz}
use Rattle.mcu_chip.specs.declared.flags.FlagOut.TheVariants.{Ff0}
use Rattle.field_decl.specs.Declaration.{Declaration}
use Rattle.field_decl.specs.declared.field.Field.{Field}
use Rattle.flow_graph.specs.declared.instructions.Instr.{Instr}
use Rattle.flow_graph.specs.Graph.{Graph}

-- the function, the mask on the K bus, the flag functions, and whether the memory is written
pub record Order : Type 0 where
  pub func : ℕ
  pub mask : ℕ
  pub ctl : FlagCtl
  pub write : Bool

-- the value at a place is 1
abbrev pub is_one : Option ℕ → Bool
is_one None = false
is_one (Some value) = value == 1

-- the declared write field has the value 1
abbrev pub writes : Option ℕ → List ℕ → Bool
writes None values = false
writes (Some place) values = is_one (slice_get values place)

-- the user fields at their defaults
abbrev pub defaults_of : List Field → List ℕ
defaults_of fields = map (λ field. field.default) fields

-- the instruction at a place of the flow: a label, or the trap, where there is none
abbrev pub instr_at : Graph → Option ℕ → Option Instr
instr_at g None = None
instr_at g (Some label) = slice_get g.instrs label

-- what a cell without an instruction orders, which the trap does too: function 6 of group 1 on R0, mask 0,
-- FF0 and HCZ, and the fields at their defaults (this project's own choice)
abbrev pub free_order : Declaration → Order
free_order decl = record {
  func = 0x60;
  mask = 0;
  ctl = record { input = Hcz; output = Ff0 };
  write = writes decl.write (defaults_of decl.fields);
}

-- what an instruction orders, or where there is none the free cell
abbrev pub order_of : Declaration → Option Instr → Order
order_of decl None = free_order decl
order_of decl (Some instr) = record { func = instr.func; mask = instr.mask; ctl = instr.ctl; write = writes decl.write instr.values }

-- the user fields of an instruction, or where there is none of the free cell
abbrev pub values_of : Declaration → Option Instr → List ℕ
values_of decl None = defaults_of decl.fields
values_of decl (Some instr) = instr.values
