use Rattle.micro_cli.proofs.Promises.{images_kept, read_back_kept, refutation_kept, checking_kept, budget_kept, decision_kept, acceptance_kept, files_kept, left_kept, no_part_kept, once_kept}
use Rattle.micro_cli.proofs.PrintingLaws.{replies_kept, inputs_kept, nothing_else}
use Rattle.micro_cli.proofs.laws.answers_keep_the_promises.Goals as goal

pub returns-clause-images : goal.returns-clause-images
returns-clause-images c = images_kept c.saved_is_read_back.ensures c.images_follow_the_flow.ensures

pub returns-clause-read_back : goal.returns-clause-read_back
returns-clause-read_back c = read_back_kept

pub returns-clause-refutation : goal.returns-clause-refutation
returns-clause-refutation c = refutation_kept

pub returns-clause-checking : goal.returns-clause-checking
returns-clause-checking c = checking_kept

pub returns-clause-budget : goal.returns-clause-budget
returns-clause-budget c = budget_kept

pub returns-clause-decides : goal.returns-clause-decides
returns-clause-decides c = decision_kept c.saved_is_read_back.ensures

pub returns-clause-acceptance : goal.returns-clause-acceptance
returns-clause-acceptance c = acceptance_kept c.saved_is_read_back.ensures

pub returns-clause-nothing : goal.returns-clause-nothing
returns-clause-nothing c = files_kept c.saved_is_read_back.ensures

pub returns-clause-replies : goal.returns-clause-replies
returns-clause-replies c = replies_kept

pub returns-clause-refuses : goal.returns-clause-refuses
returns-clause-refuses c = inputs_kept

pub returns-clause-prints : goal.returns-clause-prints
returns-clause-prints c = nothing_else

pub returns-clause-leaves : goal.returns-clause-leaves
returns-clause-leaves c = left_kept

pub returns-clause-no_part : goal.returns-clause-no_part
returns-clause-no_part c = no_part_kept

pub returns-clause-once : goal.returns-clause-once
returns-clause-once c = once_kept
