use Rattle.std.proofs.Common.{ap, arith, length, None}
use Rattle.std.proofs.lemmas.Option.{slice_get-get_or}
use Rattle.placement_clauses.specs.Upto.{at_place}
use Rattle.placement_clauses.specs.Clauses.{target_clauses}
use Rattle.placement_clauses.proofs.UptoLemmas.{upto-none}
use Rattle.placement_clauses.proofs.CountLemmas.{length-each_more}
use Rattle.clause_encode.proofs.test_targets.targets_count.Goals as goal

pub loop-outcome-init : goal.loop-outcome-init
loop-outcome-init c =
    record {
      count = λ s. ap length
          (upto-none (at_place c.args.targets.now (target_clauses c.args.kind s c.args.first.outcome c.args.first.label)));
      few = omega arith;
    }

pub loop-outcome-preserved : goal.loop-outcome-preserved
loop-outcome-preserved c =
    let there = slice_get-get_or c.args.targets.now c.loop-outcome.outcome None c.loop-outcome-test.true in
    record {
      count = λ s. length-each_more c.args.targets.now (target_clauses c.args.kind s c.args.first.outcome c.args.first.label)
          c.loop-outcome.outcome _ _ _ there
          (c.target_count-count.ensures.count s) (c.loop-outcome.invariant.count s);
      few = omega (arith, c.loop-outcome.invariant.few, c.target_count-count.ensures.few);
    }
