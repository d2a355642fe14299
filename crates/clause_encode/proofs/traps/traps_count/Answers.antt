use Rattle.std.proofs.Common.{ap, arith, length, None}
use Rattle.std.proofs.lemmas.Option.{slice_get-get_or}
use Rattle.placement_clauses.specs.Upto.{at_place}
use Rattle.placement_clauses.specs.Clauses.{trap_outcome}
use Rattle.placement_clauses.proofs.UptoLemmas.{upto-none}
use Rattle.placement_clauses.proofs.CountLemmas.{length-each_more}
use Rattle.clause_encode.proofs.traps.traps_count.Goals as goal

pub loop-target-init : goal.loop-target-init
loop-target-init c =
    record {
      count = ap length
          (upto-none (at_place c.args.targets.now (trap_outcome c.args.labels c.args.kind c.args.first.label c.args.first.outcome)));
      few = omega arith;
    }

pub loop-target-preserved : goal.loop-target-preserved
loop-target-preserved c =
    let there = slice_get-get_or c.args.targets.now c.loop-target.target-index None c.loop-target-test.true in
    record {
      count = length-each_more c.args.targets.now (trap_outcome c.args.labels c.args.kind c.args.first.label c.args.first.outcome)
          c.loop-target.target-index _ _ _ there
          (c.trap_outcome_count-count.ensures.count c.loop-target.target-index) c.loop-target.invariant.count;
      few = omega (arith, c.loop-target.invariant.few, c.trap_outcome_count-count.ensures.few);
    }
