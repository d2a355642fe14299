use Rattle.std.proofs.Common.{refl, subst, Option, None}
use Rattle.std.specs.Prelude.{codes}
use Rattle.micro_cli.specs.Command.{Command}
use Rattle.micro_cli.specs.Answer.{Answer}
use Rattle.micro_cli.specs.Keeping.{Keeps}
use Rattle.replies.specs.Ending.{Ends}
use Rattle.replies.specs.declared.status.Status.TheVariants as status
use Rattle.replies.proofs.Stopping.{says_ends}
use Rattle.micro_cli.proofs.answering.answer.Goals as goal

pub returns-in-Map-clause-ends : goal.returns-in-Map-clause-ends
returns-in-Map-clause-ends g c =
    let P : Option Command
    → Type 0 = λ command. Ends (Answer command (g.S.Shelf.state c.args.shelf.now) (g.S.Shelf.state c.map_command.new.shelf))
    (g.K.Sink.state c.args.out.now) (g.K.Sink.state c.map_command.new.out) c.map_command.result in
    subst P c.in-Map.ensures.command c.map_command.ensures.ends

pub returns-in-Flow-clause-ends : goal.returns-in-Flow-clause-ends
returns-in-Flow-clause-ends g c =
    let P : Option Command
    → Type 0 = λ command. Ends (Answer command (g.S.Shelf.state c.args.shelf.now) (g.S.Shelf.state c.flow_command.new.shelf))
    (g.K.Sink.state c.args.out.now) (g.K.Sink.state c.flow_command.new.out) c.flow_command.result in
    subst P c.in-Flow.ensures.command c.flow_command.ensures.ends

pub returns-in-Run-clause-ends : goal.returns-in-Run-clause-ends
returns-in-Run-clause-ends g c =
    let P : Option Command
    → Type 0 = λ command. Ends (Answer command (g.S.Shelf.state c.args.shelf.now) (g.S.Shelf.state c.run_saved.new.shelf))
    (g.K.Sink.state c.args.out.now) (g.K.Sink.state c.run_saved.new.out) c.run_saved.result in
    subst P c.in-Run.ensures.command c.run_saved.ensures.ends

pub returns-in-Make-clause-ends : goal.returns-in-Make-clause-ends
returns-in-Make-clause-ends g c =
    let P : Option Command
    → Type 0 = λ command. Ends (Answer command (g.S.Shelf.state c.args.shelf.now) (g.S.Shelf.state c.make_command.new.shelf))
    (g.K.Sink.state c.args.out.now) (g.K.Sink.state c.make_command.new.out) c.make_command.result in
    subst P c.in-Make.ensures.command c.make_command.ensures.ends

pub returns-in-Check-clause-ends : goal.returns-in-Check-clause-ends
returns-in-Check-clause-ends g c =
    let P : Option Command
    → Type 0 = λ command. Ends (Answer command (g.S.Shelf.state c.args.shelf.now) (g.S.Shelf.state c.check_command.new.shelf))
    (g.K.Sink.state c.args.out.now) (g.K.Sink.state c.check_command.new.out) c.check_command.result in
    subst P c.in-Check.ensures.command c.check_command.ensures.ends

pub returns-in-Unknown-clause-ends : goal.returns-in-Unknown-clause-ends
returns-in-Unknown-clause-ends g c =
    let P : Option Command
    → Type 0 = λ command. Ends (Answer command (g.S.Shelf.state c.args.shelf.now) (g.S.Shelf.state c.args.shelf.now))
    (g.K.Sink.state c.args.out.now) (g.K.Sink.state c.say.new.out) c.say.result in
    subst P c.in-Unknown.ensures.command
    (says_ends (Answer None (g.S.Shelf.state c.args.shelf.now) (g.S.Shelf.state c.args.shelf.now)) status.Words (codes "refused words\n")
    (g.K.Sink.state c.args.out.now) (g.K.Sink.state c.say.new.out) c.say.result (refl, refl, refl) c.say.ensures.says)

pub returns-in-Map-clause-keeps : goal.returns-in-Map-clause-keeps
returns-in-Map-clause-keeps g c =
    let P : Option Command
    → Type 0 = λ command. Keeps command (g.S.Shelf.state c.args.shelf.now) (g.S.Shelf.state c.map_command.new.shelf) in
    subst P c.in-Map.ensures.command (record { same = c.map_command.ensures.same; no_change = c.map_command.ensures.no_change })

pub returns-in-Flow-clause-keeps : goal.returns-in-Flow-clause-keeps
returns-in-Flow-clause-keeps g c =
    let P : Option Command
    → Type 0 = λ command. Keeps command (g.S.Shelf.state c.args.shelf.now) (g.S.Shelf.state c.flow_command.new.shelf) in
    subst P c.in-Flow.ensures.command (record { same = c.flow_command.ensures.same; no_change = c.flow_command.ensures.no_change })

pub returns-in-Run-clause-keeps : goal.returns-in-Run-clause-keeps
returns-in-Run-clause-keeps g c =
    let P : Option Command
    → Type 0 = λ command. Keeps command (g.S.Shelf.state c.args.shelf.now) (g.S.Shelf.state c.run_saved.new.shelf) in
    subst P c.in-Run.ensures.command (record { same = c.run_saved.ensures.same; no_change = c.run_saved.ensures.no_change })

pub returns-in-Make-clause-keeps : goal.returns-in-Make-clause-keeps
returns-in-Make-clause-keeps g c =
    let P : Option Command
    → Type 0 = λ command. Keeps command (g.S.Shelf.state c.args.shelf.now) (g.S.Shelf.state c.make_command.new.shelf) in
    subst P c.in-Make.ensures.command c.make_command.ensures.others

pub returns-in-Check-clause-keeps : goal.returns-in-Check-clause-keeps
returns-in-Check-clause-keeps g c =
    let P : Option Command
    → Type 0 = λ command. Keeps command (g.S.Shelf.state c.args.shelf.now) (g.S.Shelf.state c.check_command.new.shelf) in
    subst P c.in-Check.ensures.command (record { same = c.check_command.ensures.same; no_change = c.check_command.ensures.no_change })

pub returns-in-Unknown-clause-keeps : goal.returns-in-Unknown-clause-keeps
returns-in-Unknown-clause-keeps g c =
    let P : Option Command → Type 0 = λ command. Keeps command (g.S.Shelf.state c.args.shelf.now) (g.S.Shelf.state c.args.shelf.now) in
    subst P c.in-Unknown.ensures.command (record { same = refl; no_change = record { creates = refl; appends = refl } })
