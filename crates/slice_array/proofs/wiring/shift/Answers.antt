use Rattle.std.proofs.Common.{rules, arith, refl, subst, ◌≡◌, ◌<◌, ◌+◌, ◌-◌, ◌/◌, ◌%◌, ◌^◌, ◌*◌, ℕ, length, bit_and, get_or}
use Rattle.std.proofs.Math.Nat.{zero-div}
use Rattle.cpe_slice.specs.WordStep.{bit}
use Rattle.slice_array.proofs.BaseFour.{two_shift}
use Rattle.slice_array.proofs.ShiftRun.{shift_inputs}
use Rattle.slice_array.proofs.ShiftLoop.{IsDownward, inputs_above, shift_start, shift_next, shift_done}
use Rattle.slice_array.proofs.wiring.shift.Goals as goal

-- the two bits of each bus that the code reads are the digits that the slice takes in
digits_from : (k m i li j carry : ℕ) → k ≡ 0
    → (record { k = 0; m = bit_and (m / 2 ^ (2 * j)) 3; i = bit_and (i / 2 ^ (2 * j)) 3; ci = 0; li = carry })
    ≡ shift_inputs (inputs_above j (record { k = k; m = m; i = i; ci = 0; li = li })) carry
digits_from k m i li j carry e =
    let zero : 0 / 4 ^ j % 4 ≡ 0 = omega (arith, zero-div (4 ^ j)) in
    rw (e, two_shift m j, two_shift i j, zero)

pub loop-j-init : goal.loop-j-init
loop-j-init c = shift_start c.args.f _ c.args.slices.now c.args.li refl c.requires.sixteen c.requires.digits

pub loop-j-preserved : goal.loop-j-preserved
loop-j-preserved c =
    let sixteen : c.loop-j.j - 1 < 16 = search rules in
    let within : c.loop-j.j - 1 < length c.loop-j.slices = search rules in
    let within_before : c.loop-j.j - 1 < length c.args.slices.now = search rules in
    let one_more : c.loop-j.j ≡ c.loop-j.j - 1 + 1 = omega arith in
    shift_next c.args.f (record { k = c.args.k; m = c.args.m; i = c.args.i; ci = 0; li = bit c.args.li })
    c.args.slices.now c.loop-j.slices (c.loop-j.j - 1) c.loop-j.links
    c.from.result c.loop-j.low_bit c.step-out.result.ro c.index-slices-j.result
    (get_or c.loop-j.slices (c.loop-j.j - 1) c.index-slices-j.result) c.step-out.result.slice _
    (subst (λ (j : ℕ). IsDownward c.args.f (record { k = c.args.k; m = c.args.m; i = c.args.i; ci = 0; li = bit c.args.li })
    c.args.slices.now c.loop-j.slices j c.loop-j.links c.loop-j.low_bit) one_more c.loop-j.invariant)
    within within_before sixteen refl c.step-out.ensures.below c.from.ensures
    (digits_from c.args.k c.args.m c.args.i (bit c.args.li) (c.loop-j.j - 1) (bit c.loop-j.low_bit) c.requires.no_mask)
    c.step-out.ensures.slice (rw c.requires.is_shift at c.step-out.ensures.ro)

pub returns-clause-registers : goal.returns-clause-registers
returns-clause-registers c =
    let end : c.loop-j.j ≡ 0 = search rules in
    (shift_done c.args.f (record { k = c.args.k; m = c.args.m; i = c.args.i; ci = 0; li = bit c.args.li })
    c.args.slices.now c.loop-j.slices c.loop-j.links c.loop-j.low_bit
    (subst (λ (j : ℕ). IsDownward c.args.f (record { k = c.args.k; m = c.args.m; i = c.args.i; ci = 0; li = bit c.args.li })
    c.args.slices.now c.loop-j.slices j c.loop-j.links c.loop-j.low_bit) end c.loop-j.invariant)
    c.requires.some c.requires.digits (record { k = c.requires.buses.0; m = c.requires.buses.1; i = c.requires.buses.2 })
    c.requires.is_shift).registers

pub returns-clause-links : goal.returns-clause-links
returns-clause-links c =
    let end : c.loop-j.j ≡ 0 = search rules in
    (shift_done c.args.f (record { k = c.args.k; m = c.args.m; i = c.args.i; ci = 0; li = bit c.args.li })
    c.args.slices.now c.loop-j.slices c.loop-j.links c.loop-j.low_bit
    (subst (λ (j : ℕ). IsDownward c.args.f (record { k = c.args.k; m = c.args.m; i = c.args.i; ci = 0; li = bit c.args.li })
    c.args.slices.now c.loop-j.slices j c.loop-j.links c.loop-j.low_bit) end c.loop-j.invariant)
    c.requires.some c.requires.digits (record { k = c.requires.buses.0; m = c.requires.buses.1; i = c.requires.buses.2 })
    c.requires.is_shift).links

pub returns-clause-fi : goal.returns-clause-fi
returns-clause-fi c =
    let end : c.loop-j.j ≡ 0 = search rules in
    (shift_done c.args.f (record { k = c.args.k; m = c.args.m; i = c.args.i; ci = 0; li = bit c.args.li })
    c.args.slices.now c.loop-j.slices c.loop-j.links c.loop-j.low_bit
    (subst (λ (j : ℕ). IsDownward c.args.f (record { k = c.args.k; m = c.args.m; i = c.args.i; ci = 0; li = bit c.args.li })
    c.args.slices.now c.loop-j.slices j c.loop-j.links c.loop-j.low_bit) end c.loop-j.invariant)
    c.requires.some c.requires.digits (record { k = c.requires.buses.0; m = c.requires.buses.1; i = c.requires.buses.2 })
    c.requires.is_shift).carry
