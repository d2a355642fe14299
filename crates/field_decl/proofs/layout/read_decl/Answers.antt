use Rattle.std.proofs.Common.{◌∙◌, ap}
use Rattle.field_decl.specs.Results.{in_line}
use Rattle.field_decl.proofs.LayoutLaw.{refused_in, completed_in}
use Rattle.field_decl.proofs.layout.read_decl.Goals as goal

pub returns-in-Err : goal.returns-in-Err
returns-in-Err c = refused_in c.in-Err.fault c.args.bytes.now c.in-Err.ensures

pub returns-in-Ok-finish : goal.returns-in-Ok-finish
returns-in-Ok-finish c = completed_in c.in-Ok.state c.args.bytes.now c.in-Ok.ensures ∙ ap (in_line 0) c.in-Ok-finish.ensures

pub returns-in-Err-finish : goal.returns-in-Err-finish
returns-in-Err-finish c = completed_in c.in-Ok.state c.args.bytes.now c.in-Ok.ensures ∙ ap (in_line 0) c.in-Err-finish.ensures
