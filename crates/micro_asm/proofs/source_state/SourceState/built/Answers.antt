use Rattle.std.proofs.Common.{◌≡◌, ℕ, List, sym, ap, subst, ◌∙◌}
use Rattle.std.specs.Prelude.{map, unwrap_or}
use Rattle.field_decl.specs.Decls.{declaration_of}
use Rattle.flow_graph.specs.declared.instructions.Instr.{Instr}
use Rattle.flow_graph.specs.declared.pinning.Pin.{Pin}
use Rattle.flow_graph.specs.Microwords.{AllFitDeclaration}
use Rattle.flow_graph.specs.Valid.{IsProgram}
use Rattle.micro_asm.specs.Earlier.{Facts, IsSound}
use Rattle.micro_asm.specs.Source.{label_place, pin_of, instr_of}
use Rattle.micro_asm.proofs.ProgramLemmas.{program_fits, microwords_fit}
use Rattle.micro_asm.proofs.source_state.SourceState.built.Goals as goal

pub new-requires-clause-valid : goal.new-requires-clause-valid
new-requires-clause-valid c =
    let facts : Facts = c.args.self in
    let first : ℕ = unwrap_or (label_place facts.instrs c.args.start.now.label) 0 in
    let pins : List Pin = map (pin_of facts.instrs) facts.pins in
    let instrs : List Instr = map (instr_of facts.instrs) facts.instrs in
    let whole : IsProgram (unwrap_or facts.rows 32) first pins instrs =
    program_fits facts c.args.start.now (subst IsSound c.self.view_is c.self.invariant) c.requires in
    let rows : c.unwrap_or-rows.result ≡ unwrap_or facts.rows 32 = c.unwrap_or-rows.ensures
    ∙ ap (λ (f : Facts). unwrap_or f.rows 32) c.self.view_is in
    let rows_set : IsProgram c.unwrap_or-rows.result first pins instrs =
    subst (λ (rows : ℕ). IsProgram rows first pins instrs) (sym rows) whole in
    let first_set : IsProgram c.unwrap_or-rows.result c.in_ok-first.first pins instrs =
    subst (λ (start : ℕ). IsProgram c.unwrap_or-rows.result start pins instrs) (sym c.in_ok-first.ensures.first) rows_set in
    let pins_set : IsProgram c.unwrap_or-rows.result c.in_ok-first.first c.in_ok-first.pins instrs =
    subst (λ (ps : List Pin). IsProgram c.unwrap_or-rows.result c.in_ok-first.first ps instrs) (sym c.in_ok-first.ensures.pins)
    first_set in
    subst (λ (is : List Instr). IsProgram c.unwrap_or-rows.result c.in_ok-first.first c.in_ok-first.pins is)
    (sym c.in_ok-first.ensures.instrs) pins_set

pub new-requires-clause-fits : goal.new-requires-clause-fits
new-requires-clause-fits c =
    let facts : Facts = c.args.self in
    let whole : AllFitDeclaration (declaration_of c.in-Ok.decl) (map (instr_of facts.instrs) facts.instrs) =
    microwords_fit facts (declaration_of c.in-Ok.decl) (subst IsSound c.self.view_is c.self.invariant) c.in-Ok.ensures in
    subst (AllFitDeclaration (declaration_of c.in-Ok.decl)) (sym c.in_ok-first.ensures.instrs) whole
