use Rattle.std.proofs.Common.{ap, length, List, arith}
use Rattle.field_decl.specs.declared.field.Field.{Field}
use Rattle.field_decl.specs.DeclStateView.{declared_in}
use Rattle.field_decl.proofs.Sound.{few_declared}
use Rattle.field_decl.proofs.decl_state.DeclState.write_place.Goals as goal

pub overflow_cast-result : goal.overflow_cast-result
overflow_cast-result c =
    omega (
      arith,
      few_declared (declared_in c.self.inside) c.self.invariant,
      ap (λ (fields : List Field). length fields) c.as_slice.ensures,
      c.in-Some-write_place.ensures.within,
    )
