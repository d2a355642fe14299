use Rattle.std.proofs.Common.{ℕ, suc, ◌≡◌, ◌-◌, ◌/◌, ◌^◌, arith, subst, ◌∙◌}
use Rattle.field_decl.specs.KBits.{spread_bits}
use Rattle.field_decl.proofs.SpreadBits.{spread_turn, spread_fits, spread_none, spread_done, bit_is}
use Rattle.field_decl.proofs.kbits.spread_bits.Goals as goal

pub loop-j-init : goal.loop-j-init
loop-j-init c = spread_none c.args.share c.args.count (c.args.kbits / 2 ^ c.args.count)

pub loop-j-preserved : goal.loop-j-preserved
loop-j-preserved c =
    let e : c.loop-j.j ≡ suc (c.loop-j.j - 1) = omega arith in
    let before : c.loop-j.mask ≡ spread_bits c.args.share (c.args.count - suc (c.loop-j.j - 1))
    (c.args.kbits / 2 ^ suc (c.loop-j.j - 1)) =
    subst (λ (i : ℕ). c.loop-j.mask ≡ spread_bits c.args.share (c.args.count - i) (c.args.kbits / 2 ^ i)) e c.loop-j.invariant in
    spread_turn c.args.share c.args.count c.args.kbits (c.loop-j.j - 1) c.loop-j.mask c.from.result (omega arith) (omega arith)
    (c.from.ensures ∙ bit_is (c.args.kbits / 2 ^ (c.loop-j.j - 1))) before

pub overflow_add-mask : goal.overflow_add-mask
overflow_add-mask c =
    let e : c.loop-j.j ≡ suc (c.loop-j.j - 1) = omega arith in
    let before : c.loop-j.mask ≡ spread_bits c.args.share (c.args.count - suc (c.loop-j.j - 1))
    (c.args.kbits / 2 ^ suc (c.loop-j.j - 1)) =
    subst (λ (i : ℕ). c.loop-j.mask ≡ spread_bits c.args.share (c.args.count - i) (c.args.kbits / 2 ^ i)) e c.loop-j.invariant in
    let after = spread_turn c.args.share c.args.count c.args.kbits (c.loop-j.j - 1) c.loop-j.mask c.from.result (omega arith)
    (omega arith)
    (c.from.ensures ∙ bit_is (c.args.kbits / 2 ^ (c.loop-j.j - 1))) before in
    omega (arith, after, spread_fits c.args.share c.args.count c.args.kbits (c.loop-j.j - 1) (omega arith))

pub returns-clause-below : goal.returns-clause-below
returns-clause-below c = spread_done c.args.share c.args.count c.args.kbits c.loop-j.j c.loop-j.mask (omega arith) c.loop-j.invariant
