-- Labels and names: a label is the place of an instruction in source order.
use Rattle.std.specs.Prelude.{ℕ, ◌≡◌, ◌≢◌, List, Some, slice_get}
use Rattle.flow_graph.specs.declared.instructions.Instr.{Instr}

-- the instruction at a label has this name
abbrev pub HasName : List Instr → List ℕ → ℕ → Type 0
HasName instrs name label = (instr : Instr) × (slice_get instrs label ≡ Some instr) × (instr.name ≡ name)

-- no instruction has this name
abbrev pub HasNoName : List Instr → List ℕ → Type 0
HasNoName instrs name = (label : ℕ) (instr : Instr) → slice_get instrs label ≡ Some instr → instr.name ≢ name
