use Rattle.std.proofs.Common.{◌+◌, ◌-◌, ◌*◌, ◌%◌, ◌^◌, ◌≡◌, get_or, Some, slice_get, refl, sym, ap, arith}
use Rattle.std.proofs.lemmas.Option.{slice_get_read}
use Rattle.field_decl.specs.declared.field.Field.{Field}
use Rattle.prom_split.proofs.FieldBits.{Turned, joined_step, turned_fits, turned_none}
use Rattle.prom_split.proofs.field_bits.joined_values.Goals as goal

pub loop-place-init : goal.loop-place-init
loop-place-init c = turned_none _ _ _ refl

-- the number after a turn
next : (c : goal.After-from) → Turned c.args.fields.now c.args.values.now (c.loop-place.place - 1)
    (c.loop-place.number * 2 ^ (get_or c.args.fields.now (c.loop-place.place - 1) c.index-fields-place.result).width
    % 340282366920938463463374607431768211456 + c.from.result)
next c =
    let at : slice_get c.args.fields.now (c.loop-place.place - 1) ≡ Some c.index-fields-place.result =
    slice_get_read c.args.fields.now _ (c.loop-place.place - 1) c.index-fields-place.result refl (omega arith) c.index-fields-place.is in
    joined_step c.args.fields.now c.args.values.now c.loop-place.place (c.loop-place.place - 1)
    c.loop-place.number c.index-fields-place.result
    (get_or c.args.fields.now (c.loop-place.place - 1) c.index-fields-place.result).width c.from.result
    c.requires.values c.requires.narrow at (omega arith) (ap (λ (field : Field). field.width) (sym c.index-fields-place.is))
    c.from.ensures c.loop-place.invariant

pub overflow_add-number : goal.overflow_add-number
overflow_add-number c = omega (arith, turned_fits _ _ _ _ c.requires.narrow (next c))

pub loop-place-preserved : goal.loop-place-preserved
loop-place-preserved c = next c
