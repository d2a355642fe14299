-- The targets have a label, so that there is a first one.
use Rattle.std.proofs.Common.{◌≡◌, None, is_some, position}
use Rattle.flow_graph.proofs.TargetLemmas.{HasLabel-position}
use Rattle.flow_graph.proofs.instructions.first_real.Goals as goal

pub unreachable-requires : goal.unreachable-requires
unreachable-requires c =
    let none : position is_some c.args.instr.now.targets ≡ None = cc in
    HasLabel-position c.args.instr.now.targets c.requires.label none
