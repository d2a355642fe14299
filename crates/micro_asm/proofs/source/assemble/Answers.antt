use Rattle.std.proofs.Common.{ℕ, Result, sym, subst}
use Rattle.field_decl.specs.declared.fault.AsmKind.{AsmKind}
use Rattle.flow_graph.specs.Graph.{Graph, graph_of}
use Rattle.field_decl.specs.Results.{GivesText}
use Rattle.micro_asm.proofs.SourceLaw.{refused_in, finished_in}
use Rattle.micro_asm.proofs.source.assemble.Goals as goal

pub returns-in-Err : goal.returns-in-Err
returns-in-Err c = refused_in c.in-Err.fault c.args.bytes.now c.in-Err.ensures

pub returns-in-Ok : goal.returns-in-Ok
returns-in-Ok c =
    subst (λ (meant : Result Graph (ℕ × AsmKind)). GivesText graph_of c.finish.result meant)
    (sym (finished_in c.in-Ok.state c.args.bytes.now c.in-Ok.ensures)) c.finish.ensures
