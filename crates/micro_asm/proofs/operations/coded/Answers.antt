use Rattle.std.proofs.Common.{sym, ◌∙◌}
use Rattle.micro_asm.proofs.OperationLemmas.{shift_unmasked}
use Rattle.micro_asm.proofs.operations.coded.Goals as goal

pub returns-clause-fits : goal.returns-clause-fits
returns-clause-fits c = record {
  function = c.code_in_group.ensures.below;
  kbits = sym c.has_kbits.ensures.kbits ∙ c.if-not-has_kbits.false;
  shift = shift_unmasked c.code_in_group.result c.args.function c.args.group c.args.mask c.code_in_group.ensures.function
      c.code_in_group.ensures.group (sym c.is_masked_shift.ensures ∙ c.if-is_masked_shift.false);
}
