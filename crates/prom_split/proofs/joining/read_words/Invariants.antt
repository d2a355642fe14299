use Rattle.field_decl.specs.Decls.{declaration_of}
use Rattle.prom_split.specs.Parts.{width_of}
use Rattle.prom_split.proofs.JoinSteps.{Read}
use Rattle.prom_split.proofs.joining.read_words.Given as goal

-- the words so far are read from the images
abbrev pub invariant-loop-address : goal.invariant-loop-address
invariant-loop-address l = Read (width_of (declaration_of l.decl)) l.decl.prom_bits l.proms l.address l.words.items
