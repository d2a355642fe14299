-- What each promise says of a command, whatever it is.
use Rattle.std.proofs.Common.{Option, None, Some}
use Rattle.io_base.specs.Shelf.{ShelfState}
use Rattle.io_base.specs.Sink.{SinkState}
use Rattle.replies.specs.Ending.{Ends}
use Rattle.replies.specs.declared.status.Status.{Status}
use Rattle.micro_cli.specs.Command.{Command, map, flow, run, make, check}
use Rattle.micro_cli.specs.Answer.{Answer}
use Rattle.micro_cli.specs.Keeping.{Keeps}
use Rattle.micro_cli.specs.Headline.{SavesImages, ReadsBack, SavesRefutation, ChecksOut, SpendsBudget, Decides, NeverRefuses, ChangesNothing}
use Rattle.micro_cli.specs.Leaving.{LeavesFiles, LeavesNoPart, SavesOnce}
use Rattle.micro_cli.proofs.LeavingLaws.{make_leaves, make_leaves_no_part, make_saves_once}
use Rattle.micro_cli.proofs.MakeLaws.{SavedIsReadBack, ImagesFollow, done_made, done_read_back, input_read_back, accepted_decides, accepted_not_refused, nothing_changed}
use Rattle.micro_cli.proofs.UnplacedLaws.{refuted_stands, refuted_checks, undecided_stands}

pub images_kept : SavedIsReadBack → ImagesFollow
    → (command : Option Command) (old new : ShelfState) (before after : SinkState) (s : Status)
    → Ends (Answer command old new) before after s → SavesImages command old new before after s
images_kept law follow (Some (make src script out clocks conflicts)) old new before after s ends =
    λ told tells done. done_made law follow src script out clocks conflicts old new before after s told tells done ends
images_kept law follow (Some (map src)) old new before after s ends = tt
images_kept law follow (Some (flow src script clocks)) old new before after s ends = tt
images_kept law follow (Some (run out script clocks)) old new before after s ends = tt
images_kept law follow (Some (check src refutation)) old new before after s ends = tt
images_kept law follow None old new before after s ends = tt

pub read_back_kept : (command : Option Command) (old new : ShelfState) (before after : SinkState) (s : Status)
    → Ends (Answer command old new) before after s → ReadsBack command old new before after s
read_back_kept (Some (make src script out clocks conflicts)) old new before after s ends =
    λ g bytes said tells sink_tells accepted. (
      (λ done. done_read_back src script out clocks conflicts old new before after s g bytes said tells sink_tells accepted done ends),
      (λ input. input_read_back src script out clocks conflicts old new before after s g bytes said tells sink_tells accepted input ends),
    )
read_back_kept (Some (map src)) old new before after s ends = tt
read_back_kept (Some (flow src script clocks)) old new before after s ends = tt
read_back_kept (Some (run out script clocks)) old new before after s ends = tt
read_back_kept (Some (check src refutation)) old new before after s ends = tt
read_back_kept None old new before after s ends = tt

pub refutation_kept : (command : Option Command) (old new : ShelfState) (before after : SinkState) (s : Status)
    → Ends (Answer command old new) before after s → SavesRefutation command old new before after s
refutation_kept (Some (make src script out clocks conflicts)) old new before after s ends =
    λ told tells is. refuted_stands src script out clocks conflicts old new before after s told tells is ends
refutation_kept (Some (map src)) old new before after s ends = tt
refutation_kept (Some (flow src script clocks)) old new before after s ends = tt
refutation_kept (Some (run out script clocks)) old new before after s ends = tt
refutation_kept (Some (check src refutation)) old new before after s ends = tt
refutation_kept None old new before after s ends = tt

pub checking_kept : (command : Option Command) (old new : ShelfState) (before after : SinkState) (s : Status)
    → Ends (Answer command old new) before after s → ChecksOut command old new before after s
checking_kept (Some (make src script out clocks conflicts)) old new before after s ends =
    λ start end t text told tells is budget differs start_tells same reply.
    refuted_checks src script out conflicts old new start end before after t text
    (refuted_stands src script out clocks conflicts old new before after s told tells is ends) budget differs start_tells same reply
checking_kept (Some (map src)) old new before after s ends = tt
checking_kept (Some (flow src script clocks)) old new before after s ends = tt
checking_kept (Some (run out script clocks)) old new before after s ends = tt
checking_kept (Some (check src refutation)) old new before after s ends = tt
checking_kept None old new before after s ends = tt

pub budget_kept : (command : Option Command) (old new : ShelfState) (before after : SinkState) (s : Status)
    → Ends (Answer command old new) before after s → SpendsBudget command old new before after s
budget_kept (Some (make src script out clocks conflicts)) old new before after s ends =
    λ told tells is. undecided_stands src script out clocks conflicts old new before after s told tells is ends
budget_kept (Some (map src)) old new before after s ends = tt
budget_kept (Some (flow src script clocks)) old new before after s ends = tt
budget_kept (Some (run out script clocks)) old new before after s ends = tt
budget_kept (Some (check src refutation)) old new before after s ends = tt
budget_kept None old new before after s ends = tt

pub decision_kept : SavedIsReadBack → (command : Option Command) (old new : ShelfState) (before after : SinkState) (s : Status)
    → Ends (Answer command old new) before after s → Decides command old new before after s
decision_kept law (Some (make src script out clocks conflicts)) old new before after s ends =
    λ g bytes said told tells accepted faultless.
    accepted_decides law src script out clocks conflicts old new before after s g bytes said told accepted faultless ends
decision_kept law (Some (map src)) old new before after s ends = tt
decision_kept law (Some (flow src script clocks)) old new before after s ends = tt
decision_kept law (Some (run out script clocks)) old new before after s ends = tt
decision_kept law (Some (check src refutation)) old new before after s ends = tt
decision_kept law None old new before after s ends = tt

pub acceptance_kept : SavedIsReadBack → (command : Option Command) (old new : ShelfState) (before after : SinkState) (s : Status)
    → Ends (Answer command old new) before after s → NeverRefuses command old s
acceptance_kept law (Some (make src script out clocks conflicts)) old new before after s ends =
    λ g bytes said told accepted.
    accepted_not_refused law src script out clocks conflicts old new before after s g bytes said told accepted ends
acceptance_kept law (Some (map src)) old new before after s ends = tt
acceptance_kept law (Some (flow src script clocks)) old new before after s ends = tt
acceptance_kept law (Some (run out script clocks)) old new before after s ends = tt
acceptance_kept law (Some (check src refutation)) old new before after s ends = tt
acceptance_kept law None old new before after s ends = tt

pub files_kept : SavedIsReadBack → (command : Option Command) (old new : ShelfState) (before after : SinkState) (s : Status)
    → Keeps command old new → Ends (Answer command old new) before after s → ChangesNothing old new s
files_kept law (Some (make src script out clocks conflicts)) old new before after s keeps ends =
    λ told is. nothing_changed law src script out clocks conflicts old new before after s told is ends
files_kept law (Some (map src)) old new before after s keeps ends = λ told is. keeps.same
files_kept law (Some (flow src script clocks)) old new before after s keeps ends = λ told is. keeps.same
files_kept law (Some (run out script clocks)) old new before after s keeps ends = λ told is. keeps.same
files_kept law (Some (check src refutation)) old new before after s keeps ends = λ told is. keeps.same
files_kept law None old new before after s keeps ends = λ told is. keeps.same

pub left_kept : (command : Option Command) (old new : ShelfState) (before after : SinkState) (s : Status)
    → Ends (Answer command old new) before after s → LeavesFiles command old new
left_kept (Some (make src script out clocks conflicts)) old new before after s ends =
    make_leaves src script out clocks conflicts old new before after s ends
left_kept (Some (map src)) old new before after s ends = tt
left_kept (Some (flow src script clocks)) old new before after s ends = tt
left_kept (Some (run out script clocks)) old new before after s ends = tt
left_kept (Some (check src refutation)) old new before after s ends = tt
left_kept None old new before after s ends = tt

pub no_part_kept : (command : Option Command) (old new : ShelfState) (before after : SinkState) (s : Status)
    → Ends (Answer command old new) before after s → LeavesNoPart command old new s
no_part_kept (Some (make src script out clocks conflicts)) old new before after s ends =
    λ want. make_leaves_no_part src script out clocks conflicts old new before after s want ends
no_part_kept (Some (map src)) old new before after s ends = tt
no_part_kept (Some (flow src script clocks)) old new before after s ends = tt
no_part_kept (Some (run out script clocks)) old new before after s ends = tt
no_part_kept (Some (check src refutation)) old new before after s ends = tt
no_part_kept None old new before after s ends = tt

pub once_kept : (command : Option Command) (old new : ShelfState) (before after : SinkState) (s : Status)
    → Ends (Answer command old new) before after s → SavesOnce command old new s
once_kept (Some (make src script out clocks conflicts)) old new before after s ends =
    make_saves_once src script out clocks conflicts old new before after s ends
once_kept (Some (map src)) old new before after s ends = tt
once_kept (Some (flow src script clocks)) old new before after s ends = tt
once_kept (Some (run out script clocks)) old new before after s ends = tt
once_kept (Some (check src refutation)) old new before after s ends = tt
once_kept None old new before after s ends = tt
