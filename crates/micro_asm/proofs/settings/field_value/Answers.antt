use Rattle.std.proofs.Common.{◌≡◌, ◌∙◌, ℕ, Option, Some, length, refl, sym, ap, arith}
use Rattle.std.specs.Prelude.{option_map, unwrap_or, slice_get}
use Rattle.std.proofs.lemmas.Option.{slice_get_read}
use Rattle.field_decl.specs.declared.field.Field.{Field}
use Rattle.micro_asm.specs.Settings.{field_value}
use Rattle.micro_asm.proofs.SettingLemmas.{value_held, narrow_at, held_below}
use Rattle.micro_asm.proofs.settings.field_value.Goals as goal

abbrev some_number : ℕ → Option ℕ
some_number n = Some n

pub overflow_cast-result : goal.overflow_cast-result
overflow_cast-result c =
    let fields = c.args.fields.now in
    let field : Field = c.index-fields-place.result in
    let at : slice_get fields c.args.place ≡ Some field =
    slice_get_read fields (length fields) c.args.place field refl c.requires.place c.index-fields-place.is in
    omega (
      arith,
      held_below c.in-Some.value field.width (narrow_at fields c.args.place field c.requires.sized at)
          (value_held fields c.args.settings.now c.args.place field c.in-Some.value c.requires.distinct c.requires.accepted at
          (sym c.in-Some.ensures)),
    )

pub returns-in-Some : goal.returns-in-Some
returns-in-Some c =
    let fields = c.args.fields.now in
    let field : Field = c.index-fields-place.result in
    let at : slice_get fields c.args.place ≡ Some field =
    slice_get_read fields (length fields) c.args.place field refl c.requires.place c.index-fields-place.is in
    sym (ap (option_map (field_value c.args.settings.now)) at
    ∙ ap (λ (given : Option ℕ). some_number (unwrap_or given field.default)) (sym c.in-Some.ensures))

pub returns-in-None : goal.returns-in-None
returns-in-None c =
    let fields = c.args.fields.now in
    let field : Field = c.index-fields-place.result in
    let at : slice_get fields c.args.place ≡ Some field =
    slice_get_read fields (length fields) c.args.place field refl c.requires.place c.index-fields-place.is in
    sym (ap (option_map (field_value c.args.settings.now)) at
    ∙ ap (λ (given : Option ℕ). some_number (unwrap_or given field.default)) (sym c.in-None.ensures))
