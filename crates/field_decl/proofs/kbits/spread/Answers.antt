use Rattle.std.proofs.Common.{ℕ, ◌≡◌, ◌<◌, ◌*◌, ◌/◌, ◌%◌, ◌^◌, ap, sym, subst, ◌∙◌}
use Rattle.field_decl.specs.KBits.{spread_bits, share_of}
use Rattle.field_decl.proofs.DrivenBits.{spread_bit}
use Rattle.field_decl.proofs.kbits.spread.Goals as goal

pub returns-clause-driven : goal.returns-clause-driven
returns-clause-driven c = λ b lt.
    let some : 0 < share_of c.args.decl.now = subst (λ (s : ℕ). 0 < s) c.share.ensures.share c.share.ensures.some in
    let all : share_of c.args.decl.now * c.args.decl.now.kbus ≡ 2 * c.args.decl.now.slices =
    subst (λ (s : ℕ). s * c.args.decl.now.kbus ≡ 2 * c.args.decl.now.slices) c.share.ensures.share c.share.ensures.all in
    let within : b < share_of c.args.decl.now * c.args.decl.now.kbus = subst (λ (n : ℕ). b < n) (sym all) lt in
    ap (λ (m : ℕ). m / 2 ^ b % 2)
    (c.spread_bits.ensures.mask ∙ ap (λ (s : ℕ). spread_bits s c.args.decl.now.kbus c.args.kbits) c.share.ensures.share)
    ∙ spread_bit (share_of c.args.decl.now) c.args.decl.now.kbus c.args.kbits b some within
