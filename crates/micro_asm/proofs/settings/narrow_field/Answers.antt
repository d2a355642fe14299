use Rattle.micro_asm.proofs.SettingLemmas.{narrow_found}
use Rattle.micro_asm.proofs.settings.narrow_field.Goals as goal

pub returns-clause-narrow : goal.returns-clause-narrow
returns-clause-narrow c = narrow_found c.args.fields.now c.args.name.now c.field_named.result c.requires c.field_named.ensures
