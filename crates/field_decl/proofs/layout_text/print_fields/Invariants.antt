use Rattle.std.proofs.Common.{◌≡◌, ◌++◌, drop}
use Rattle.field_decl.specs.LayoutText.{fields_text}
use Rattle.field_decl.proofs.layout_text.print_fields.Given as goal

abbrev pub invariant-loop-field : goal.invariant-loop-field
invariant-loop-field l = l.text.items ++ fields_text (drop l.field-index l.fields) ≡ l.initial.text.items ++ fields_text l.fields
