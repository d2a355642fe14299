use Rattle.field_decl.proofs.Sound.{sound_write}
use Rattle.field_decl.proofs.decl_state.DeclState.take_write.Goals as goal

pub invariant_of-self : goal.invariant_of-self
invariant_of-self c =
    sound_write c.self.inside.slices c.self.inside.kbus c.self.inside.fields c.self.inside.prom c.self.inside.write c.args.name
    c.self.invariant
