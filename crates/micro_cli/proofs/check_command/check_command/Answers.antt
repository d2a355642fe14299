use Rattle.micro_cli.specs.Checking.{CheckReply}
use Rattle.replies.proofs.Stopping.{said_end}
use Rattle.micro_cli.proofs.check_command.check_command.Goals as goal

pub returns-clause-ends : goal.returns-clause-ends
returns-clause-ends g c =
    said_end (CheckReply c.args.src.now c.args.refutation.now (g.S.Shelf.state c.args.shelf.now)
    (g.S.Shelf.state c.check_reply-end.new.shelf)) c.check_reply-end.result
    (g.K.Sink.state c.args.out.now) (g.K.Sink.state c.say_end.new.out)
    c.say_end.result c.check_reply-end.ensures.reply c.say_end.ensures.says
