-- What the program answers, and why, over the shelf before and after (this project's own choice).
use Rattle.std.specs.Prelude.{ℕ, ◌≡◌, List, Option, None, Some, codes}
use Rattle.io_base.specs.Shelf.{ShelfState}
use Rattle.bench_answers.specs.Running.{RunReply}
use Rattle.micro_cli.specs.Checking.{CheckReply}
use Rattle.replies.specs.Ending.{OrNoMemory}
use Rattle.replies.specs.declared.status.Status.{Status}
use Rattle.replies.specs.declared.status.Status.TheVariants as status
use Rattle.micro_cli.specs.Command.{Command, map, flow, run, make, check}
use Rattle.micro_cli.specs.Mapping.{MapReply}
use Rattle.micro_cli.specs.Flowing.{FlowReply}
use Rattle.micro_cli.specs.Making.{MakeAnswer}

-- what the program answers to a command, or to words that are none, for which the shelf is left as it was
abbrev pub Answer : Option Command → ShelfState → ShelfState → Status → List ℕ → Type 0
Answer None old new s text = (s ≡ status.Words) × (text ≡ codes "refused words\n") × (new ≡ old)
Answer (Some (map src)) old new s text = OrNoMemory (MapReply src old new) s text
Answer (Some (flow src script clocks)) old new s text = OrNoMemory (FlowReply src script clocks old new) s text
Answer (Some (run out script clocks)) old new s text = OrNoMemory (RunReply out script clocks old new) s text
Answer (Some (make src script out clocks conflicts)) old new s text = MakeAnswer src script out clocks conflicts old new s text
Answer (Some (check src refutation)) old new s text = OrNoMemory (CheckReply src refutation old new) s text
