-- What a program holds, as others see it.
use Rattle.std.specs.Prelude.{ℕ, List}
use Rattle.field_decl.specs.Declaration.{Declaration}
use Rattle.field_decl.specs.Decls.{declaration_of}
use Rattle.flow_graph.specs.declared.instructions.Instr.{Instr}
use Rattle.flow_graph.specs.declared.pinning.Pin.{Pin}
use Rattle.flow_graph.specs.declared.programs.Program.{Program}

-- the declaration, the row bound, the start label, the pins and the instructions in source order
pub record Graph : Type 0 where
  pub decl : Declaration
  pub rows : ℕ
  pub start : ℕ
  pub pins : List Pin
  pub instrs : List Instr

-- the graph of a program
abbrev pub graph_of : Program → Graph
graph_of program = record {
  decl = declaration_of program.decl;
  rows = program.rows;
  start = program.start;
  pins = program.pins;
  instrs = program.instrs;
}
