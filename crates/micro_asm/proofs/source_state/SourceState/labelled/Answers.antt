use Rattle.std.proofs.Common.{◌≡◌, ◌∙◌, None, sym, ap}
use Rattle.micro_asm.specs.Earlier.{Facts}
use Rattle.micro_asm.specs.Source.{unknown_line}
use Rattle.micro_asm.specs.SourceStateView.{facts_in}
use Rattle.micro_asm.proofs.ProgramLemmas.{start_placed}
use Rattle.micro_asm.proofs.source_state.SourceState.labelled.Goals as goal

pub unreachable-requires : goal.unreachable-requires
unreachable-requires c =
    let known : unknown_line (facts_in c.self.inside) c.args.start.now ≡ None =
    ap (λ (facts : Facts). unknown_line facts c.args.start.now) c.self.view_is ∙ c.requires in
    start_placed (facts_in c.self.inside) c.args.start.now known (sym c.label_of.ensures ∙ c.in_default.is)
