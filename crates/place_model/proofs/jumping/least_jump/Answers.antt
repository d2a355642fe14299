-- The jump that reaches the labels is the only one that may meet legality, but where there is one outcome.
use Rattle.place_model.proofs.JumpLemmas.{least_of_labels, no_other_jump, serves_labels}
use Rattle.place_model.proofs.jumping.least_jump.Goals as goal

pub returns-then-lands_traps_free-clause-some : goal.returns-then-lands_traps_free-clause-some
returns-then-lands_traps_free-clause-some c =
    let told = rw c.as_slice.ensures at c.lands_traps_free.ensures in
    least_of_labels c.args.placement.now c.args.instr.now c.args.from c.in-Some.jump c.requires.instr c.in-Some.ensures.serves
    c.in-Some.ensures.least (told.0 c.if-lands_traps_free.true)

pub returns-else-lands_traps_free-clause-none : goal.returns-else-lands_traps_free-clause-none
returns-else-lands_traps_free-clause-none c =
    let told = rw c.as_slice.ensures at c.lands_traps_free.ensures in
    no_other_jump c.one_jump_to_a_label.ensures c.args.placement.now c.args.instr.now c.args.from c.in-Some.jump c.requires.instr
    c.in-Some.ensures.serves (λ free. cc (told.1 free))

pub returns-in-None-clause-none : goal.returns-in-None-clause-none
returns-in-None-clause-none c =
    λ jump meets. c.in-None.ensures.none jump (serves_labels c.args.placement.now c.args.instr.now c.args.from jump meets)
