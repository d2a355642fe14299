use Rattle.std.proofs.Common.{◌≤◌, arith}
use Rattle.prom_split.proofs.FieldBits.{low_fits}
use Rattle.prom_split.proofs.Widths.{few_kbits}
use Rattle.prom_split.proofs.word_parts.parts.Goals as goal

pub overflow_cast-result : goal.overflow_cast-result
overflow_cast-result c =
    let decl = c.args.decl.now in
    let few : c.from-kbus.result ≤ 32 =
    omega (
      arith,
      c.from-kbus.ensures,
      few_kbits decl.slices decl.kbus decl.valid.most_slices decl.valid.some_slices decl.valid.some_kbus decl.valid.shared,
    ) in
    omega (arith, low_fits c.low_bits-4.result c.from-kbus.result few c.low_bits-4.ensures.below)
