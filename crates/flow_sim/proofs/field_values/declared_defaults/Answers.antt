use Rattle.std.proofs.Common.{arith}
use Rattle.field_decl.proofs.FieldLemmas.{few_fields}
use Rattle.flow_sim.proofs.field_values.declared_defaults.Goals as goal

pub defaults_of-requires : goal.defaults_of-requires
defaults_of-requires c =
    let decl = c.args.decl.now in
    rw c.as_slice.ensures (omega (arith, few_fields decl.fields decl.valid.sized, decl.valid.word))
