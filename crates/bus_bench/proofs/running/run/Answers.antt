use Rattle.std.proofs.Common.{ap, arith}
use Rattle.field_decl.specs.Decls.{declaration_of}
use Rattle.bus_bench.specs.Chip.{BenchState}
use Rattle.bus_bench.proofs.ClockSteps.{start_clock}
use Rattle.bus_bench.proofs.TextSteps.{text_of_run}
use Rattle.bus_bench.proofs.running.run.Goals as goal

pub write_clocks-requires-clause-early : goal.write_clocks-requires-clause-early
write_clocks-requires-clause-early g c =
    omega (arith, ap (λ (s : BenchState). s.machine.clock) c.in-Ok.ensures.start, start_clock c.args.script.now, c.ranges.clocks.fits)

pub returns-in-Ok-write_clocks-clause-ok : goal.returns-in-Ok-write_clocks-clause-ok
returns-in-Ok-write_clocks-clause-ok g c =
    rw (text_of_run c.args.words.now (declaration_of c.args.decl.now) c.args.script.now c.args.clocks, ← c.in-Ok.ensures.start)
    c.in-Ok-write_clocks.ensures.ok

pub returns-clause-err : goal.returns-clause-err
returns-clause-err g c =
    rw (text_of_run c.args.words.now (declaration_of c.args.decl.now) c.args.script.now c.args.clocks, ← c.in-Ok.ensures.start)
    c.in-Err-write_clocks.ensures.err
