use Rattle.std.proofs.Common.{◌≡◌, ◌<◌, ◌∙◌, false, ℕ, List, Option, length, sym, ap, subst}
use Rattle.std.specs.Prelude.{unwrap_or}
use Rattle.field_decl.specs.Earlier.{declaration_with}
use Rattle.micro_asm.specs.declared.accepted_lines.NamedInstr.{NamedInstr}
use Rattle.micro_asm.specs.Earlier.{Facts, IsSound, IsNamedInstr, declaration_so_far, has_label}
use Rattle.micro_asm.specs.SourceStateView.{facts_in}
use Rattle.micro_asm.proofs.SoundLemmas.{sound_instr}
use Rattle.micro_asm.proofs.source_state.SourceState.take_instruction.Goals as goal

pub push-requires : goal.push-requires
push-requires c = ap (has_label c.self.inside.instrs) c.in-Ok.ensures.label ∙ sym c.has_label.ensures ∙ c.if-has_label.false

pub invariant_of-self-in-Ok : goal.invariant_of-self-in-Ok
invariant_of-self-in-Ok c =
    let facts : Facts = facts_in c.self.inside in
    let instr : NamedInstr = c.in-Ok.instr in
    let new : has_label facts.instrs instr.label ≡ false = ap (has_label facts.instrs) c.in-Ok.ensures.label ∙ sym c.has_label.ensures
    ∙ c.if-has_label.false in
    let few : length facts.instrs < 128 =
    subst (λ (instrs : List NamedInstr). length instrs < 128) c.as_slice.ensures c.if-as_slice-ge-INSTRUCTION_LIMIT.false in
    let fits : IsNamedInstr (declaration_so_far facts.declared) instr =
    subst (λ (slices : Option ℕ). IsNamedInstr (declaration_with (unwrap_or slices 1) facts.declared) instr)
    c.in-Some.ensures c.in-Ok.ensures.fits in
    subst (λ (instrs : List NamedInstr). IsSound (record facts { instrs = instrs })) (sym c.in_ok-push-in-Ok.ensures.added)
    (sound_instr facts instr c.self.invariant new few fits)
