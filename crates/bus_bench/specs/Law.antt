-- What the law on chip and flow asks of a program.
use Rattle.field_decl.specs.Declaration.{Declaration, IsDeclaration}
use Rattle.flow_graph.specs.Graph.{Graph}
use Rattle.flow_graph.specs.Valid.{IsProgram}
use Rattle.flow_graph.specs.Microwords.{AllFitDeclaration}

-- the numbers of a declaration fit together
abbrev pub Declares : Declaration → Type 0
Declares decl = IsDeclaration decl.slices decl.kbus decl.fields decl.prom_words decl.prom_bits decl.write

-- the parts of a graph fit together as those of every program do
pub record IsGraph (g : Graph) : Type 0 where
  pub declares : Declares g.decl
  pub program : IsProgram g.rows g.start g.pins g.instrs
  pub microwords : AllFitDeclaration g.decl g.instrs
