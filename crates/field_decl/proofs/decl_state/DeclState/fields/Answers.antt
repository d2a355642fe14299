use Rattle.std.proofs.Common.{ap, length, List, arith}
use Rattle.field_decl.specs.declared.field.Field.{Field}
use Rattle.field_decl.specs.DeclStateView.{declared_in}
use Rattle.field_decl.proofs.Sound.{few_declared}
use Rattle.field_decl.proofs.decl_state.DeclState.fields.Goals as goal

pub returns-clause-few : goal.returns-clause-few
returns-clause-few c =
    omega (
      arith,
      few_declared (declared_in c.self.inside) c.self.invariant,
      ap (λ (fields : List Field). length fields) c.as_slice.ensures,
    )
