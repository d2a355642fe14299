-- When the parts of a program fit together (this project's own choice, with the 3001's 32 rows of 16 cells).
use Rattle.std.specs.Prelude.{ℕ, ◌≡◌, ◌<◌, ◌≤◌, List, length, Some, slice_get}
use Rattle.mcu_jumps.specs.Landing.{outcomes_of}
use Rattle.flow_graph.specs.declared.instructions.Instr.{Instr}
use Rattle.flow_graph.specs.declared.pinning.Pin.{Pin}
use Rattle.flow_graph.specs.Targets.{HasLabel, AreTargets}

-- an instruction of a program with this many instructions
pub record IsInstr (count : ℕ) (instr : Instr) : Type 0 where
  pub name_not_empty : 0 < length instr.name
  pub name_size : length instr.name ≤ 32
  pub target_for_each_outcome : length instr.targets ≡ outcomes_of instr.kind
  pub targets_in_range : AreTargets count instr.targets
  pub some_label : HasLabel instr.targets

-- a row bound, a start, pins and instructions of one program
pub record IsProgram (rows start : ℕ) (pins : List Pin) (instrs : List Instr) : Type 0 where
  pub some_row : 0 < rows
  pub rows_in_matrix : rows ≤ 32
  pub cells_for_all : length instrs ≤ 512
  pub start_in_range : start < length instrs
  pub each_instr : (label : ℕ) (instr : Instr) → slice_get instrs label ≡ Some instr → IsInstr (length instrs) instr
  pub names_differ : (i j : ℕ) (x y : Instr) → slice_get instrs i ≡ Some x → slice_get instrs j ≡ Some y → x.name ≡ y.name → i ≡ j
  pub pins_in_range : (k : ℕ) (pin : Pin) → slice_get pins k ≡ Some pin → pin.label < length instrs
  pub pinned_once : (k l : ℕ) (p q : Pin) → slice_get pins k ≡ Some p → slice_get pins l ≡ Some q → p.label ≡ q.label → k ≡ l
