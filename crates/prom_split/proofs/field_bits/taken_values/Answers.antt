use Rattle.std.proofs.Common.{ℕ, List, [], ◌∷◌, ◌++◌, ◌+◌, ◌/◌, ◌%◌, ◌^◌, ◌≤◌, ◌≡◌, Some, slice_get, refl, sym, ap, subst, ◌∙◌, arith}
use Rattle.std.proofs.lemmas.Option.{slice_get_read}
use Rattle.field_decl.proofs.FieldLemmas.{few_fields}
use Rattle.prom_split.proofs.FieldBits.{Taken, low_fits, sized_at, taken_turn, taken_end}
use Rattle.prom_split.proofs.field_bits.taken_values.Goals as goal

pub overflow_cast-low_bits : goal.overflow_cast-low_bits
overflow_cast-low_bits c =
    let at : slice_get c.args.fields.now c.loop-field.field-index ≡ Some c.field-item.result =
    slice_get_read c.args.fields.now _ c.loop-field.field-index c.field-item.result refl (omega arith) c.field-item.is in
    let most = (sized_at c.args.fields.now c.loop-field.field-index c.field-item.result c.requires.sized at).most in
    let narrow : c.from.result ≤ 32 = omega (arith, c.from.ensures, most) in
    omega (arith, low_fits c.low_bits.result c.from.result narrow c.low_bits.ensures.below)

pub push-requires : goal.push-requires
push-requires c = omega (arith, c.loop-field.invariant.count, few_fields c.args.fields.now c.requires.sized, c.requires.narrow)

pub loop-field-preserved : goal.loop-field-preserved
loop-field-preserved c =
    let at : slice_get c.args.fields.now c.loop-field.field-index ≡ Some c.field-item.result =
    slice_get_read c.args.fields.now _ c.loop-field.field-index c.field-item.result refl (omega arith) c.field-item.is in
    let low : c.low_bits.result ≡ c.loop-field.rest % 2 ^ c.field-item.result.width = c.low_bits.ensures.low
    ∙ ap (λ (w : ℕ). c.loop-field.rest % 2 ^ w) c.from.ensures in
    let grown : c.push.new.self ≡ c.loop-field.values ++ c.loop-field.rest % 2 ^ c.field-item.result.width ∷ [] = c.push.ensures
    ∙ ap (λ (n : ℕ). c.loop-field.values ++ n ∷ []) low in
    subst (λ (values : List ℕ). Taken c.args.fields.now c.args.number values (c.loop-field.field-index + 1)
    (c.loop-field.rest / 2 ^ c.field-item.result.width)) (sym grown)
    (taken_turn c.args.fields.now c.args.number c.loop-field.values c.loop-field.field-index c.loop-field.rest c.field-item.result at
    c.loop-field.invariant)

pub returns : goal.returns
returns c = taken_end c.args.fields.now c.args.number c.loop-field.values c.loop-field.field-index c.loop-field.rest (omega arith)
    c.loop-field.invariant
