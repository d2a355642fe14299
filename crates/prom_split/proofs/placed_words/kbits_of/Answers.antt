use Rattle.std.proofs.Common.{◌*◌, ◌/◌, ◌<◌, refl, sym, ◌∙◌}
use Rattle.field_decl.specs.KBits.{gathered_bits}
use Rattle.field_decl.proofs.SpreadBits.{gathers_back}
use Rattle.prom_split.proofs.Widths.{share_some}
use Rattle.prom_split.proofs.placed_words.kbits_of.Goals as goal

pub returns-clause-kbits : goal.returns-clause-kbits
returns-clause-kbits c =
    let decl = c.args.decl.now in
    let some : 0 < 2 * decl.slices / decl.kbus =
    share_some decl.slices decl.kbus decl.valid.some_slices decl.valid.some_kbus decl.valid.shared in
    sym (gathers_back (2 * decl.slices / decl.kbus) decl.kbus c.args.mask
    (gathered_bits (2 * decl.slices / decl.kbus) decl.kbus c.args.mask) c.in-Some.kbits some c.in-Some.ensures.found.few
    (c.in-Some.ensures.found.spread ∙ c.from.ensures) refl)
