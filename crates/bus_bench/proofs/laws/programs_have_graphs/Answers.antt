use Rattle.bus_bench.proofs.laws.programs_have_graphs.Goals as goal

pub returns : goal.returns
returns c = record {
  declares = c.args.program.now.decl.valid;
  program = c.args.program.now.valid;
  microwords = c.args.program.now.fits;
}
