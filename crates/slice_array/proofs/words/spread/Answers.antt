use Rattle.std.proofs.Common.{ℕ, ◌≡◌, ◌<◌, ◌^◌, ◌+◌, length, rules, arith, ap, subst, ◌∙◌}
use Rattle.cpe_slice.specs.Registers.{AllBelow}
use Rattle.slice_array.specs.Whole.{digit}
use Rattle.slice_array.specs.Regs.{registers_of}
use Rattle.slice_array.proofs.WholeDigits.{whole_digits, all_digits}
use Rattle.slice_array.proofs.words.spread.Goals as goal

pub returns-clause-value : goal.returns-clause-value
returns-clause-value c =
    let same : length c.args.slices.now ≡ length c.loop-j.slices = search rules in
    whole_digits c.loop-j.slices (registers_of c.args.regs.now)
    (subst (λ (n : ℕ). AllBelow (4 ^ n) (registers_of c.args.regs.now)) same c.requires.below)
    (λ i d h. c.loop-j.invariant i d (let p : i < c.loop-j.j = omega arith in p))

pub returns-clause-digits : goal.returns-clause-digits
returns-clause-digits c =
    all_digits c.loop-j.slices (registers_of c.args.regs.now) c.requires.below.ten 0
    (λ i d h. c.loop-j.invariant i d (let p : i < c.loop-j.j = omega arith in p)
    ∙ ap (λ (n : ℕ). digit n (registers_of c.args.regs.now)) (let q : i ≡ 0 + i = omega arith in q))
