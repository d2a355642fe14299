use Rattle.std.proofs.Common.{◌<◌, ◌^◌, sym, subst}
use Rattle.field_decl.specs.Decls.{declaration_of}
use Rattle.prom_split.specs.declared.word_parts.WordParts.{WordParts}
use Rattle.bus_bench.proofs.ClockSteps.{kbits_below}
use Rattle.bus_bench.proofs.bench.Bench.step.Goals as goal

pub clock_on-cell-requires-clause-kbits : goal.clock_on-cell-requires-clause-kbits
clock_on-cell-requires-clause-kbits c =
    subst (λ (parts : WordParts). parts.kbits < 2 ^ c.args.decl.now.kbus) (sym c.parts-parts.ensures)
    (kbits_below (declaration_of c.args.decl.now) c.word_at.result)
