use Rattle.std.proofs.Common.{ℕ, ◌≡◌, ◌<◌, ◌≤◌, ◌^◌, ◌-◌, length, length-drop, drop, rules, arith, subst, sym, ap, ◌∙◌}
use Rattle.std.proofs.Math.Nat.{pow-le-pow_right}
use Rattle.cpe_slice.specs.Registers.{Registers, AllBelow}
use Rattle.slice_array.specs.Whole.{whole}
use Rattle.slice_array.proofs.WholeWords.{whole_below, all_drop, all_at, below_more_room}
use Rattle.slice_array.proofs.words.gather.Goals as goal

pub joined-regs-requires-clause-regs : goal.joined-regs-requires-clause-regs
joined-regs-requires-clause-regs c =
    let few : length (drop c.loop-j.j c.args.slices.now) ≤ 15 = omega (arith, length-drop c.loop-j.j c.args.slices.now) in
    subst (λ (w : Registers). AllBelow (4 ^ 15) w) (sym c.loop-j.invariant)
    (below_more_room _ (4 ^ 15) (whole (drop c.loop-j.j c.args.slices.now)) (pow-le-pow_right {n = 4} (omega arith) few)
    (whole_below (drop c.loop-j.j c.args.slices.now) (all_drop c.args.slices.now c.loop-j.j c.requires.digits)))

pub joined-regs-requires-clause-slice : goal.joined-regs-requires-clause-slice
joined-regs-requires-clause-slice c =
    let within : c.loop-j.j - 1 < length c.args.slices.now = search rules in
    subst (λ (w : Registers). AllBelow 4 w) (sym c.index-slices-j.is)
    (all_at c.args.slices.now (c.loop-j.j - 1) c.index-slices-j.result within c.requires.digits)

pub returns-clause-below : goal.returns-clause-below
returns-clause-below c =
    let all : drop c.loop-j.j c.args.slices.now ≡ c.args.slices.now = let zero : c.loop-j.j ≡ 0 = search rules in
    ap (λ (n : ℕ). drop n c.args.slices.now) zero in
    subst (λ (w : Registers). AllBelow (4 ^ length c.args.slices.now) w) (sym (c.loop-j.invariant ∙ ap whole all))
    (whole_below c.args.slices.now c.requires.digits)
