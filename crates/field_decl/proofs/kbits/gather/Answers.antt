use Rattle.std.proofs.Common.{ℕ, ◌≡◌, ◌<◌, Option, Some, ap, subst, ◌∙◌}
use Rattle.field_decl.specs.KBits.{gathered_bits, share_of, spread_of}
use Rattle.field_decl.proofs.SpreadBits.{gathers_back}
use Rattle.field_decl.proofs.kbits.gather.Goals as goal

abbrev some_bits : ℕ → Option ℕ
some_bits kbits = Some kbits

pub returns-then-spread-mask-clause-back : goal.returns-then-spread-mask-clause-back
returns-then-spread-mask-clause-back c = λ k g.
    let some : 0 < share_of c.args.decl.now = subst (λ (s : ℕ). 0 < s) c.share.ensures.share c.share.ensures.some in
    let same : c.gathered_bits-kbits.result ≡ k =
    gathers_back (share_of c.args.decl.now) c.args.decl.now.kbus c.args.mask c.gathered_bits-kbits.result k some g.few g.spread
    (c.gathered_bits-kbits.ensures.kbits ∙ ap (λ (s : ℕ). gathered_bits s c.args.decl.now.kbus c.args.mask) c.share.ensures.share) in
    ap some_bits same

pub returns-else-spread-mask-clause-back : goal.returns-else-spread-mask-clause-back
returns-else-spread-mask-clause-back c = λ k g.
    let some : 0 < share_of c.args.decl.now = subst (λ (s : ℕ). 0 < s) c.share.ensures.share c.share.ensures.some in
    let same : c.gathered_bits-kbits.result ≡ k =
    gathers_back (share_of c.args.decl.now) c.args.decl.now.kbus c.args.mask c.gathered_bits-kbits.result k some g.few g.spread
    (c.gathered_bits-kbits.ensures.kbits ∙ ap (λ (s : ℕ). gathered_bits s c.args.decl.now.kbus c.args.mask) c.share.ensures.share) in
    absurd (c.if-spread-mask.false (c.spread.ensures.mask ∙ ap (spread_of c.args.decl.now) same ∙ g.spread))
