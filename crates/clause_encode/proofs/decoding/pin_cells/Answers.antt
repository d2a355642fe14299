use Rattle.std.proofs.Common.{◌≡◌, ◌<◌, ◌∙◌, inl, inr, ap, sym, subst, refl, arith, length, Some}
use Rattle.std.specs.Prelude.{slice_get}
use Rattle.std.proofs.lemmas.Option.{slice_get_read, same_Some, slice_get_within}
use Rattle.std.proofs.lemmas.Bool.{cases_lt}
use Rattle.mcu_jumps.specs.Position.{IsCell}
use Rattle.flow_graph.specs.declared.pinning.Pin.{Pin}
use Rattle.clause_encode.proofs.decoding.pin_cells.Goals as goal

pub loop-pin-init : goal.loop-pin-init
loop-pin-init c = λ k pin lt at. absurd (omega arith)

pub loop-pin-preserved : goal.loop-pin-preserved
loop-pin-preserved c = λ k pin lt at.
    let i = c.loop-pin.pin-index in
    let here = c.pin-item.result in
    let i_in : i < length c.args.pins.now = omega arith in
    let there : slice_get c.args.pins.now i ≡ Some here =
    slice_get_read c.args.pins.now (length c.args.pins.now) i here refl i_in c.pin-item.is in
    let is : IsCell here.cell =
    record {
      row = omega (arith, c.row.ensures.row, c.row.ensures.in_range);
      col = omega (arith, c.col.ensures.col, c.col.ensures.in_range);
    } in
    elim (cases_lt k i) as (λ _. IsCell pin.cell) [
      | inl below ↦ c.loop-pin.invariant k pin below at
      | inr above ↦
          let same_place : k ≡ i = omega arith in
          let same : here ≡ pin = same_Some here pin (sym there ∙ ap (slice_get c.args.pins.now) (sym same_place) ∙ at) in
          subst (λ (p : Pin). IsCell p.cell) same is
    ]

pub returns : goal.returns
returns c = λ k pin at.
    let within : k < length c.args.pins.now = slice_get_within c.args.pins.now k pin at in
    c.loop-pin.invariant k pin (omega arith) at
