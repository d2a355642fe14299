use Rattle.std.proofs.Common.{◌∙◌}
use Rattle.field_decl.proofs.NamedLists.{any_named}
use Rattle.field_decl.proofs.named_table.NamedTable.has.Goals as goal

pub returns : goal.returns
returns g c =
    c.contains.ensures
    ∙ any_named g.T.Named.name_of c.args.name.now c.self.inside.names.keys c.self.inside.items.items _ c.self.invariant c.self.view_is
