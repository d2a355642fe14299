use Rattle.std.proofs.Common.{◌≡◌, ◌≢◌, ℕ, ◌<◌, Some, slice_get}
use Rattle.flow_graph.specs.declared.instructions.Instr.{Instr}
use Rattle.flow_graph.proofs.programs.Program.find.Given as goal

-- no instruction before this label has the name
abbrev pub invariant-loop-label : goal.invariant-loop-label
invariant-loop-label l = (earlier : ℕ) (instr : Instr) → earlier < l.label → slice_get l.self.instrs earlier ≡ Some instr
    → instr.name ≢ l.name
