use Rattle.micro_cli.proofs.OneReply.{flow_once, run_once, check_once}
use Rattle.micro_cli.proofs.OneMap.{map_once}
use Rattle.micro_cli.proofs.laws.each_reply_is_one.Goals as goal

pub returns-clause-flow : goal.returns-clause-flow
returns-clause-flow c = λ files src script clocks s t text other one two. flow_once files src script clocks s t text other one two

pub returns-clause-run : goal.returns-clause-run
returns-clause-run c = λ files out script clocks s t text other one two. run_once files files out script clocks s t text other one two

pub returns-clause-check : goal.returns-clause-check
returns-clause-check c = λ files src refutation s t text other one two. check_once files src refutation s t text other one two

pub returns-clause-map : goal.returns-clause-map
returns-clause-map c = λ files src s t text other valid one two. map_once files src s t text other valid one two
