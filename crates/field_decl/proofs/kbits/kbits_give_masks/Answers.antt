use Rattle.field_decl.proofs.MaskLaw.{given_has, has_given}
use Rattle.field_decl.proofs.kbits.kbits_give_masks.Goals as goal

pub returns-clause-given : goal.returns-clause-given
returns-clause-given c = given_has

pub returns-clause-giving : goal.returns-clause-giving
returns-clause-giving c = has_given
