-- What is printed, read off the answer.
use Rattle.std.proofs.Common.{ℕ, ◌≡◌, ◌⊎◌, inl, inr, List, ◌++◌, length, take, Option, None, Some, IsTrue, refl, sym, ap, ◌∙◌, arith}
use Rattle.std.proofs.lemmas.List.{take_all}
use Rattle.io_base.specs.Shelf.{ShelfState}
use Rattle.io_base.specs.Sink.{SinkState}
use Rattle.flow_graph.specs.Graph.{Graph}
use Rattle.bus_script.specs.Script.{BusScript}
use Rattle.replies.specs.Ending.{Ends, OrNoMemory}
use Rattle.replies.specs.declared.status.Status.{Status}
use Rattle.bench_answers.specs.Running.{RunReply}
use Rattle.micro_cli.specs.Command.{Command, map, flow, run, make, check}
use Rattle.micro_cli.specs.Answer.{Answer}
use Rattle.micro_cli.specs.Accepted.{IsAccepted}
use Rattle.micro_cli.specs.Checking.{CheckReply}
use Rattle.micro_cli.specs.Flowing.{FlowReply}
use Rattle.micro_cli.specs.Inputs.{InputsReply}
use Rattle.micro_cli.specs.Making.{MakeAnswer}
use Rattle.micro_cli.specs.Mapping.{MapReply}
use Rattle.micro_cli.specs.Headline.{NoFaultCounted}
use Rattle.micro_cli.specs.Replying.{LacksInputsOver, MapOver, FlowOver, RunOver, CheckOver}
use Rattle.micro_cli.specs.Printing.{PrintsReply, PrintsReplies, RefusesInputs, PrintsNothingElse}
use Rattle.micro_cli.proofs.AcceptedInputs.{starts_accepted}
use Rattle.micro_cli.proofs.OverFilesSteps.{OrFails, inputs_over}
use Rattle.micro_cli.proofs.CommandsOver.{map_over, flow_over, run_over, check_over, prints}

-- ---- the four commands

pub replies_kept : (command : Option Command) (old new : ShelfState) (before after : SinkState) (s : Status)
    → Ends (Answer command old new) before after s → PrintsReplies command old new before after s
replies_kept (Some (map src)) old new before after s ends =
    λ tells sink_tells faultless.
    prints (MapReply src old new) (MapOver old.file src) old new before after s (map_over src old new tells) sink_tells faultless ends
replies_kept (Some (flow src script clocks)) old new before after s ends =
    λ tells sink_tells faultless.
    prints (FlowReply src script clocks old new) (FlowOver old.file src script clocks) old new before after s
    (flow_over src script clocks old new tells) sink_tells faultless ends
replies_kept (Some (run out script clocks)) old new before after s ends =
    λ tells sink_tells faultless.
    prints (RunReply out script clocks old new) (RunOver old.file old.file out script clocks) old new before after s
    (run_over out script clocks old new tells) sink_tells faultless ends
replies_kept (Some (check src refutation)) old new before after s ends =
    λ tells sink_tells faultless.
    prints (CheckReply src refutation old new) (CheckOver old.file src refutation) old new before after s
    (check_over src refutation old new tells) sink_tells faultless ends
replies_kept (Some (make src script out clocks conflicts)) old new before after s ends = tt
replies_kept None old new before after s ends = tt

-- ---- the inputs of `make`

refuses_inputs : (src script out : List ℕ) (clocks conflicts : ℕ) (old new : ShelfState) (before after : SinkState) (s : Status)
    → IsTrue old.tells → IsTrue before.tells → NoFaultCounted old new before after
    → Ends (MakeAnswer src script out clocks conflicts old new) before after s
    → ((g : Graph) × (bytes : List ℕ) × (said : BusScript) × IsAccepted src script old.file g bytes said)
    ⊎ PrintsReply (LacksInputsOver old.file src script) before after s
refuses_inputs src script out clocks conflicts old new before after s tells sink_tells faultless (inr failed) =
    absurd (faultless.sink failed.1)
refuses_inputs src script out clocks conflicts old new before after s tells sink_tells faultless (inl (text, inr from, adds)) =
    inl (from.g, from.bytes, from.starts.read.said, starts_accepted src script old from.mid from.g from.bytes tells from.starts)
refuses_inputs src script out clocks conflicts old new before after s tells sink_tells faultless (inl (text, inl without, adds)) =
    inr (go without.told)
  where
    by : OrFails old new (LacksInputsOver old.file src script s text) s → PrintsReply (LacksInputsOver old.file src script) before after s
    by (inl refused) = (text, inl refused.1, adds sink_tells)
    by (inr unread) = absurd (faultless.shelf unread.rose)

    go : OrNoMemory (InputsReply src script old new) s text → PrintsReply (LacksInputsOver old.file src script) before after s
    go (inl reply) = by (inputs_over src script old new s text tells reply)
    go (inr wants) = (text, inr wants, adds sink_tells)

pub inputs_kept : (command : Option Command) (old new : ShelfState) (before after : SinkState) (s : Status)
    → Ends (Answer command old new) before after s → RefusesInputs command old new before after s
inputs_kept (Some (make src script out clocks conflicts)) old new before after s ends =
    λ tells sink_tells faultless.
    refuses_inputs src script out clocks conflicts old new before after s tells sink_tells faultless ends
inputs_kept (Some (map src)) old new before after s ends = tt
inputs_kept (Some (flow src script clocks)) old new before after s ends = tt
inputs_kept (Some (run out script clocks)) old new before after s ends = tt
inputs_kept (Some (check src refutation)) old new before after s ends = tt
inputs_kept None old new before after s ends = tt

-- ---- the bytes

pub nothing_else : (command : Option Command) (old new : ShelfState) (before after : SinkState) (s : Status)
    → Ends (Answer command old new) before after s → PrintsNothingElse command old new before after s
nothing_else command old new before after s (inl (text, answer, adds)) = λ tells.
    let all : take (length text) text ≡ text = take_all (length text) text (omega arith) in
    record {
      meant = s;
      text = text;
      answer = answer;
      count = length text;
      written = adds tells ∙ ap (λ (t : List ℕ). before.bytes ++ t) (sym all);
      whole = inl (refl, all);
    }
nothing_else command old new before after s (inr (is, rose, (meant, text, answer, front))) = λ tells.
    let added = front tells in
    record { meant = meant; text = text; answer = answer; count = added.0; written = added.1; whole = inr is }
