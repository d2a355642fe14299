use Rattle.std.proofs.Common.{◌∙◌, ◌++◌, ◌∷◌, [], ap, sym, List, ℕ}
use Rattle.std.specs.Prelude.{map}
use Rattle.std.specs.List.{list_any}
use Rattle.std.specs.Str.{bytes_eq}
use Rattle.std.proofs.lemmas.List.{map-append}
use Rattle.field_decl.proofs.NamedLists.{any_named}
use Rattle.field_decl.proofs.named_table.NamedTable.push.Goals as goal

pub add_name-requires : goal.add_name-requires
add_name-requires g c =
    ap (λ (name : List ℕ). list_any (bytes_eq name) c.self.inside.names.keys) c.name-name.ensures.value
    ∙ any_named g.T.Named.name_of (g.T.Named.name_of c.args.item) c.self.inside.names.keys c.self.inside.items.items _ c.self.invariant
    c.self.view_is
    ∙ c.requires

pub invariant_of-self-in-Ok : goal.invariant_of-self-in-Ok
invariant_of-self-in-Ok g c =
    c.in-Ok.ensures.added ∙ ap (λ (name : List ℕ). c.self.inside.names.keys ++ name ∷ []) c.name-name.ensures.value
    ∙ ap (λ (names : List (List ℕ)). names ++ g.T.Named.name_of c.args.item ∷ []) c.self.invariant
    ∙ sym (map-append g.T.Named.name_of c.self.inside.items.items (c.args.item ∷ []))
    ∙ ap (map g.T.Named.name_of) (sym c.in_ok-push.ensures.items)
