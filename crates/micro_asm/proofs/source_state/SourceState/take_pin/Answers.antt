use Rattle.std.proofs.Common.{◌∙◌, List, sym, subst}
use Rattle.micro_asm.specs.declared.accepted_lines.PinLine.{PinLine}
use Rattle.micro_asm.specs.Earlier.{Facts, IsSound}
use Rattle.micro_asm.specs.SourceStateView.{facts_in}
use Rattle.micro_asm.proofs.SoundLemmas.{sound_pin}
use Rattle.micro_asm.proofs.source_state.SourceState.take_pin.Goals as goal

pub invariant_of-self-2 : goal.invariant_of-self-2
invariant_of-self-2 c =
    let facts : Facts = facts_in c.self.inside in
    let pin : PinLine = record { line = c.args.line; label = c.args.label; cell = c.at-cell.result } in
    subst (λ (pins : List PinLine). IsSound (record facts { pins = pins })) (sym c.in_ok-push.ensures.added)
    (sound_pin facts pin c.self.invariant (sym c.has.ensures ∙ c.if-has.false))
