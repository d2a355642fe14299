use Rattle.std.proofs.Common.{ℕ, ◌*◌, ◌%◌, ◌^◌, ◌≤◌, ◌≡◌, length, ap, ◌∙◌, arith}
use Rattle.field_decl.specs.Decls.{declaration_of}
use Rattle.prom_split.specs.Parts.{width_of}
use Rattle.prom_split.proofs.JoinSteps.{read_push}
use Rattle.prom_split.proofs.Widths.{width_is, cover}
use Rattle.prom_split.proofs.joining.read_words.Goals as goal

pub loop-address-preserved : goal.loop-address-preserved
loop-address-preserved c =
    let decl = c.args.decl.now in
    let width = width_of (declaration_of decl) in
    let number = c.number_at-number.result in
    let room : width ≤ length c.args.proms.now * decl.prom_bits =
    rw c.requires.count (cover width decl.prom_bits (width_is decl.prom_bits decl.valid.bits)).room in
    let low : c.low_bits.result ≡ number % 2 ^ width = c.low_bits.ensures.low
    ∙ ap (λ (w : ℕ). number % 2 ^ w) c.word_width-width.ensures in
    rw (c.in_ok-push.ensures.items, low)
    (read_push width decl.prom_bits c.args.proms.now c.loop-address.address c.loop-address.words.items number c.loop-address.invariant
    (λ bit lt. c.number_at-number.ensures.shown bit (omega (arith, room, lt))))
