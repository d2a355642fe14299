use Rattle.std.proofs.Common.{arith}
use Rattle.clause_encode.proofs.ShortLemmas.{all-short}
use Rattle.clause_encode.proofs.list_source.ListSource.new.Goals as goal

pub invariant_of-result : goal.invariant_of-result
invariant_of-result c = record {
  over = c.vars.ensures.value;
  givable = record {
    valid = c.vars.ensures.valid;
    short = all-short _ _ (omega (arith, c.vars.ensures.value, c.vars.ensures.few)) c.vars.ensures.valid;
  };
}
