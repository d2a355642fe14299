-- What the tables of the earlier directives hold.
use Rattle.field_decl.specs.declared.decl_state.DeclState.TheInside.{Inside}
use Rattle.field_decl.specs.Earlier.{Declared}

-- what all these directives declare
abbrev pub declared_in : Inside → Declared
declared_in state = record { slices = state.slices; kbus = state.kbus; fields = state.fields; prom = state.prom; write = state.write }
