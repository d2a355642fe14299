use Rattle.std.proofs.Common.{ℕ, suc, ◌≡◌, ◌<◌, ◌-◌, ◌/◌, ◌^◌, ◌*◌, arith, subst, sym}
use Rattle.std.specs.Prelude.{bit_and}
use Rattle.field_decl.specs.KBits.{gathered_bits}
use Rattle.field_decl.proofs.SpreadBits.{gathered_turn, gathered_fits, gathered_none, gathered_below, bit_is}
use Rattle.field_decl.proofs.kbits.gathered_bits.Goals as goal

pub loop-j-init : goal.loop-j-init
loop-j-init c = gathered_none c.args.share c.args.count (c.args.mask / 2 ^ (c.args.count * c.args.share))

pub overflow_mul-kbits : goal.overflow_mul-kbits
overflow_mul-kbits c =
    omega (
      arith,
      c.loop-j.invariant,
      gathered_fits c.args.share c.args.count (c.args.mask / 2 ^ (c.loop-j.j * c.args.share))
          c.loop-j.j c.requires.some_share c.requires.narrow,
    )

pub overflow_add-kbits : goal.overflow_add-kbits
overflow_add-kbits c =
    omega (
      arith,
      c.loop-j.invariant,
      bit_is (c.args.mask / 2 ^ ((c.loop-j.j - 1) * c.args.share)),
      gathered_fits c.args.share c.args.count (c.args.mask / 2 ^ (c.loop-j.j * c.args.share))
          c.loop-j.j c.requires.some_share c.requires.narrow,
    )

pub loop-j-preserved : goal.loop-j-preserved
loop-j-preserved c =
    let e : c.loop-j.j ≡ suc (c.loop-j.j - 1) = omega arith in
    let before : c.loop-j.kbits ≡ gathered_bits c.args.share (c.args.count - suc (c.loop-j.j - 1))
    (c.args.mask / 2 ^ (suc (c.loop-j.j - 1) * c.args.share)) =
    subst (λ (i : ℕ). c.loop-j.kbits ≡ gathered_bits c.args.share (c.args.count - i) (c.args.mask / 2 ^ (i * c.args.share)))
    e c.loop-j.invariant in
    gathered_turn c.args.share c.args.count c.args.mask (c.loop-j.j - 1) c.loop-j.kbits
    (bit_and (c.args.mask / 2 ^ ((c.loop-j.j - 1) * c.args.share)) 1) (omega arith)
    (bit_is (c.args.mask / 2 ^ ((c.loop-j.j - 1) * c.args.share))) before

pub overflow_cast-result : goal.overflow_cast-result
overflow_cast-result c =
    omega (
      arith,
      c.loop-j.invariant,
      gathered_fits c.args.share c.args.count (c.args.mask / 2 ^ (c.loop-j.j * c.args.share))
          c.loop-j.j c.requires.some_share c.requires.narrow,
    )

pub returns-clause-few : goal.returns-clause-few
returns-clause-few c =
    let none : c.loop-j.j ≡ 0 = omega arith in
    let all : c.args.count - c.loop-j.j ≡ c.args.count = omega arith in
    subst (λ (n : ℕ). c.loop-j.kbits < 2 ^ n) all
    (subst (λ (k : ℕ). k < 2 ^ (c.args.count - c.loop-j.j)) (sym c.loop-j.invariant)
    (gathered_below c.args.share (c.args.count - c.loop-j.j) (c.args.mask / 2 ^ (c.loop-j.j * c.args.share))))
