use Rattle.std.proofs.Common.{◌≡◌, ◌∙◌, List, take, sym, ap, subst, arith}
use Rattle.std.proofs.lemmas.List.{take_all}
use Rattle.flow_graph.specs.Microwords.{AreValues}
use Rattle.field_decl.specs.declared.field.Field.{Field}
use Rattle.micro_asm.specs.Settings.{values_given}
use Rattle.micro_asm.proofs.SettingLemmas.{values_push, values_held}
use Rattle.micro_asm.proofs.settings.values_given.Goals as goal

pub loop-place-preserved : goal.loop-place-preserved
loop-place-preserved c =
    c.push.ensures ∙ values_push c.args.fields.now c.args.settings.now c.loop-place.place c.field_value.result c.loop-place.values
    (omega arith) c.field_value.ensures c.loop-place.invariant

pub returns-clause-held : goal.returns-clause-held
returns-clause-held c =
    let all : take c.loop-place.place c.args.fields.now ≡ c.args.fields.now =
    take_all c.loop-place.place c.args.fields.now (omega arith) in
    let values : c.loop-place.values ≡ values_given c.args.fields.now c.args.settings.now = c.loop-place.invariant
    ∙ ap (λ (fields : List Field). values_given fields c.args.settings.now) all in
    subst (AreValues c.args.fields.now) (sym values)
    (values_held c.args.fields.now c.args.settings.now c.requires.sized c.requires.distinct c.requires.accepted)
