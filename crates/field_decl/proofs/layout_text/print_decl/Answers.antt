use Rattle.field_decl.specs.Decls.{declaration_of}
use Rattle.field_decl.proofs.ReadAgain.{reads_ok}
use Rattle.field_decl.proofs.layout_text.print_decl.Goals as goal

pub returns-clause-reads : goal.returns-clause-reads
returns-clause-reads c =
    reads_ok (λ v. v.items) (declaration_of c.args.decl.now) c.args.decl.now.valid c.print_lines.result c.print_lines.ensures
