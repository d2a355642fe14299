use Rattle.std.proofs.Common.{rules, refl, ◌≡◌, ◌<◌, ◌≤◌, ◌/◌, ◌^◌, ◌*◌, ℕ, length, bit_and, get_or}
use Rattle.cpe_slice.specs.WordStep.{bit}
use Rattle.slice_array.proofs.RippleRun.{digit_inputs}
use Rattle.slice_array.proofs.RippleLoop.{inputs_from, ripple_next, ripple_done}
use Rattle.slice_array.proofs.BaseFour.{two_shift}
use Rattle.slice_array.proofs.wiring.ripple.Goals as goal

-- the two bits of each bus that the code reads are the digits that the slice takes in
digits_from : (k m i li j : ℕ) (c d : _)
    → (record { k = bit_and (k / 2 ^ (2 * j)) 3; m = bit_and (m / 2 ^ (2 * j)) 3; i = bit_and (i / 2 ^ (2 * j)) 3; ci = bit c; li = li })
    ≡ digit_inputs (inputs_from j (record { k = k; m = m; i = i; ci = bit d; li = li }) c)
digits_from k m i li j c d = rw (two_shift k j, two_shift m j, two_shift i j)

pub loop-j-preserved : goal.loop-j-preserved
loop-j-preserved c =
    let sixteen : c.loop-j.j < 16 = search rules in
    let within : c.loop-j.j < length c.loop-j.slices = search rules in
    ripple_next c.args.f (record { k = c.args.k; m = c.args.m; i = c.args.i; ci = bit c.args.ci; li = 0 })
    c.args.slices.now c.loop-j.slices c.loop-j.j c.loop-j.links
    c.from.result c.loop-j.carry c.step-out.result.co c.index-slices-j.result (get_or c.loop-j.slices c.loop-j.j c.index-slices-j.result)
    c.step-out.result.slice _
    c.loop-j.invariant within sixteen refl c.step-out.ensures.below c.from.ensures
    (digits_from c.args.k c.args.m c.args.i 0 c.loop-j.j c.loop-j.carry c.args.ci) c.step-out.ensures.slice
    (rw c.requires.no_shift at c.step-out.ensures.co)

pub returns-clause-registers : goal.returns-clause-registers
returns-clause-registers c =
    let end : length c.args.slices.now ≤ c.loop-j.j = search rules in
    let all : length c.loop-j.slices ≤ c.loop-j.j = search rules in
    (ripple_done c.args.f (record { k = c.args.k; m = c.args.m; i = c.args.i; ci = bit c.args.ci; li = 0 })
    c.args.slices.now c.loop-j.slices c.loop-j.j c.loop-j.links c.loop-j.carry
    c.loop-j.invariant end all c.requires.some c.requires.digits
    (record { k = c.requires.buses.0; m = c.requires.buses.1; i = c.requires.buses.2 }) c.requires.no_shift).registers

pub returns-clause-links : goal.returns-clause-links
returns-clause-links c =
    let end : length c.args.slices.now ≤ c.loop-j.j = search rules in
    let all : length c.loop-j.slices ≤ c.loop-j.j = search rules in
    (ripple_done c.args.f (record { k = c.args.k; m = c.args.m; i = c.args.i; ci = bit c.args.ci; li = 0 })
    c.args.slices.now c.loop-j.slices c.loop-j.j c.loop-j.links c.loop-j.carry
    c.loop-j.invariant end all c.requires.some c.requires.digits
    (record { k = c.requires.buses.0; m = c.requires.buses.1; i = c.requires.buses.2 }) c.requires.no_shift).links

pub returns-clause-fi : goal.returns-clause-fi
returns-clause-fi c =
    let end : length c.args.slices.now ≤ c.loop-j.j = search rules in
    let all : length c.loop-j.slices ≤ c.loop-j.j = search rules in
    (ripple_done c.args.f (record { k = c.args.k; m = c.args.m; i = c.args.i; ci = bit c.args.ci; li = 0 })
    c.args.slices.now c.loop-j.slices c.loop-j.j c.loop-j.links c.loop-j.carry
    c.loop-j.invariant end all c.requires.some c.requires.digits
    (record { k = c.requires.buses.0; m = c.requires.buses.1; i = c.requires.buses.2 }) c.requires.no_shift).carry
