-- What `map`, `flow`, `run` and `check` reply over a shelf that tells its files is their reply over these files, or a
-- read failed.
use Rattle.std.proofs.Common.{ℕ, ◌⊎◌, inl, inr, List, Option, None, Some, Ok, Err, IsTrue, sym, subst}
use Rattle.std.specs.Prelude.{codes}
use Rattle.io_base.specs.Shelf.{ShelfState}
use Rattle.io_base.specs.Sink.{SinkState}
use Rattle.io_base.specs.Loading.{ExplainsFault}
use Rattle.io_base.specs.declared.loading.LoadFault.TheVariants as load_fault
use Rattle.flow_graph.specs.Graph.{Graph}
use Rattle.clause_encode.specs.PlacementList.{list_of}
use Rattle.refute_check.specs.Taken.{Explains}
use Rattle.refute_check.specs.declared.checked.Checked.{Checked}
use Rattle.refute_check.specs.declared.checked.CheckFault.TheVariants as fault
use Rattle.saved_files.proofs.ComposingStates.{tells_goes_on}
use Rattle.replies.specs.Texts.{Refuses}
use Rattle.replies.specs.FileStep.{NoFile, CannotRead}
use Rattle.replies.specs.Ending.{Ends, OrNoMemory}
use Rattle.replies.specs.declared.status.Status.{Status}
use Rattle.bench_answers.specs.Running.{RunReply}
use Rattle.micro_cli.specs.CheckerText.{TellsAnswer}
use Rattle.micro_cli.specs.Checking.{refutation_limit, IsAnswer, IsTooLong, RefutationReply, CheckReply}
use Rattle.micro_cli.specs.Flowing.{FlowReply}
use Rattle.micro_cli.specs.Mapping.{MapReply}
use Rattle.micro_cli.specs.Headline.{NoFaultCounted}
use Rattle.micro_cli.specs.Printing.{PrintsReply}
use Rattle.micro_cli.specs.OverFiles.{LacksProgram, LacksScriptOver}
use Rattle.micro_cli.specs.Replying.{LacksInputsOver, MapOver, FlowOver, RunOver, TellsOf, IsChecked, CheckOver}
use Rattle.micro_cli.proofs.AcceptedInputs.{IsUnread, unread_by}
use Rattle.micro_cli.proofs.OverFilesSteps.{OrFails, source_over, program_over, inputs_over, later_script_over, later_said_over, words_over, had_words}

-- this reply, or a read failed since the old state
abbrev pub RepliesOrFails : ShelfState → ShelfState → Type 0 → Status → Type 0
RepliesOrFails old new reply s = reply ⊎ IsUnread old new s

-- a refusal is such a reply
refused_or_fails : (old new : ShelfState) (P Q : Type 0) (s : Status) → (P → Q) → OrFails old new P s → RepliesOrFails old new Q s
refused_or_fails old new P Q s is (inl refused) = inl (is refused.1)
refused_or_fails old new P Q s is (inr failed) = inr failed

pub map_over : (src : List ℕ) (old new : ShelfState) → IsTrue old.tells → (s : Status) (text : List ℕ) → MapReply src old new s text
    → RepliesOrFails old new (MapOver old.file src s text) s
map_over src old new tells s text (inl reply) =
    refused_or_fails old new (LacksProgram old.file src s text) (MapOver old.file src s text) s (λ refused. inl refused)
    (source_over src old new s text tells reply)
map_over src old new tells s text (inr (g, has, reply)) = inl (inr (g, program_over src old new g tells has, reply))

pub flow_over : (src script : List ℕ) (clocks : ℕ) (old new : ShelfState) → IsTrue old.tells → (s : Status) (text : List ℕ)
    → FlowReply src script clocks old new s text
    → RepliesOrFails old new (FlowOver old.file src script clocks s text) s
flow_over src script clocks old new tells s text (inl reply) =
    refused_or_fails old new (LacksInputsOver old.file src script s text) (FlowOver old.file src script clocks s text) s
    (λ refused. inl refused) (inputs_over src script old new s text tells reply)
flow_over src script clocks old new tells s text (inr (g, said, had, flow)) =
    inl (inr (
      g,
      said,
      program_over src old had.mid g tells had.source,
      later_said_over script g.decl.slices old had.mid new said tells had.source.file.same had.source.file.goes_on had.read,
      flow,
    ))

pub run_over : (out script : List ℕ) (clocks : ℕ) (old new : ShelfState) → IsTrue old.tells → (s : Status) (text : List ℕ)
    → RunReply out script clocks old new s text
    → RepliesOrFails old new (RunOver old.file old.file out script clocks s text) s
run_over out script clocks old new tells s text (inl (inl reply)) =
    refused_or_fails old new (RunOver old.file old.file out script clocks s text) (RunOver old.file old.file out script clocks s text) s
    (λ refused. refused) (words_over old.file out script clocks old new s text tells reply)
run_over out script clocks old new tells s text (inl (inr lacks)) =
    let gives = had_words out lacks.decl lacks.words old lacks.mid tells lacks.had in
    refused_or_fails old new (LacksScriptOver old.file script lacks.decl.slices s text)
    (RunOver old.file old.file out script clocks s text) s
    (λ refused. inr (lacks.decl, gives.declared, inr (lacks.words, gives.holds, inl refused)))
    (later_script_over script lacks.decl.slices old lacks.mid new s text tells gives.same gives.goes_on lacks.reply)
run_over out script clocks old new tells s text (inr (decl, words, said, bench, reply)) =
    let gives = had_words out decl words old bench.mid tells bench.had in
    let says = later_said_over script decl.slices old bench.mid new said tells gives.same gives.goes_on bench.read in
    inl (inr (decl, gives.declared, inr (words, gives.holds, inr (said, says, reply))))

-- ---- a refutation

answer_over : (file : Option (List ℕ)) (name : List ℕ) (g : Graph) (answer : Checked) (s : Status) (text : List ℕ)
    → Explains file refutation_limit (list_of g) (Ok answer) → TellsAnswer answer s text → IsChecked file name g s text
answer_over None name g answer s text explained told = absurd explained
answer_over (Some bytes) name g answer s text explained told =
    let P : Option Checked → Type 0 = λ found. TellsOf found name s text in subst P (sym explained) told

long_over : (file : Option (List ℕ)) (name : List ℕ) (g : Graph) (s : Status) (text : List ℕ)
    → Explains file refutation_limit (list_of g) (Err fault.TooLong) → Refuses name (codes "TooLong") s text
    → IsChecked file name g s text
long_over None name g s text explained told = absurd explained
long_over (Some bytes) name g s text explained told =
    let P : Option Checked → Type 0 = λ found. TellsOf found name s text in subst P (sym explained) told

none_over : (file : Option (List ℕ)) (name : List ℕ) (g : Graph) (s : Status) (text : List ℕ)
    → ExplainsFault file refutation_limit load_fault.NoFile → Refuses name (codes "NoFile") s text → IsChecked file name g s text
none_over None name g s text explained told = told
none_over (Some bytes) name g s text explained told = absurd explained

refutation_over : (name : List ℕ) (g : Graph) (old new : ShelfState) (s : Status) (text : List ℕ) → IsTrue old.tells
    → RefutationReply name g old new s text
    → IsChecked (old.file name) name g s text ⊎ CannotRead name old new s text
refutation_over name g old new s text tells reply = go reply.reason
  where
    go : IsAnswer name g old new s text ⊎ NoFile name refutation_limit old new s text ⊎ IsTooLong name g old new s text
        ⊎ CannotRead name old new s text
        → IsChecked (old.file name) name g s text ⊎ CannotRead name old new s text
    go (inl answer) = inl (answer_over (old.file name) name g answer.answer s text (answer.told tells) answer.reply)
    go (inr (inl none)) = inl (none_over (old.file name) name g s text (none.told tells) none.reply)
    go (inr (inr (inl long))) = inl (long_over (old.file name) name g s text (long.told tells) long.reply)
    go (inr (inr (inr unread))) = inr unread

pub check_over : (src refutation : List ℕ) (old new : ShelfState) → IsTrue old.tells → (s : Status) (text : List ℕ)
    → CheckReply src refutation old new s text
    → RepliesOrFails old new (CheckOver old.file src refutation s text) s
check_over src refutation old new tells s text (inl reply) =
    refused_or_fails old new (LacksProgram old.file src s text) (CheckOver old.file src refutation s text) s (λ refused. inl refused)
    (source_over src old new s text tells reply)
check_over src refutation old new tells s text (inr checks) =
    go (refutation_over refutation checks.g checks.mid new s text (tells_goes_on old checks.mid checks.source.file.goes_on tells)
    checks.reply)
  where
    P : (List ℕ → Option (List ℕ)) → Type 0
    P files = IsChecked (files refutation) refutation checks.g s text

    go : IsChecked (checks.mid.file refutation) refutation checks.g s text ⊎ CannotRead refutation checks.mid new s text
        → RepliesOrFails old new (CheckOver old.file src refutation s text) s
    go (inl reply) =
        inl (inr (
          checks.g,
          program_over src old checks.mid checks.g tells checks.source,
          subst P checks.source.file.same reply,
        ))
    go (inr unread) = inr (unread_by refutation old checks.mid new s text checks.source.file.goes_on unread)

-- ---- what is printed

-- where no call failed, what is printed is the reply over the files, or that memory was refused
pub prints : (P Q : Status → List ℕ → Type 0) (old new : ShelfState) (before after : SinkState) (s : Status)
    → ((t : Status) (text : List ℕ) → P t text → RepliesOrFails old new (Q t text) t)
    → IsTrue before.tells → NoFaultCounted old new before after → Ends (OrNoMemory P) before after s
    → PrintsReply Q before after s
prints P Q old new before after s over tells faultless (inr failed) = absurd (faultless.sink failed.1)
prints P Q old new before after s over tells faultless (inl (text, answer, adds)) = go answer
  where
    by : RepliesOrFails old new (Q s text) s → PrintsReply Q before after s
    by (inl reply) = (text, inl reply, adds tells)
    by (inr unread) = absurd (faultless.shelf unread.rose)

    go : OrNoMemory P s text → PrintsReply Q before after s
    go (inl reply) = by (over s text reply)
    go (inr wants) = (text, inr wants, adds tells)
