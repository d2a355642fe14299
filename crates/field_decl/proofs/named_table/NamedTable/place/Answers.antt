use Rattle.std.proofs.Common.{◌∙◌}
use Rattle.field_decl.proofs.NamedLists.{place_named}
use Rattle.field_decl.proofs.named_table.NamedTable.place.Goals as goal

pub returns-clause-place : goal.returns-clause-place
returns-clause-place g c =
    c.get_index_of.ensures.index
    ∙ place_named g.T.Named.name_of c.args.name.now c.self.inside.names.keys c.self.inside.items.items _ c.self.invariant c.self.view_is
