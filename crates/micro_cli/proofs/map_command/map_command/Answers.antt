use Rattle.micro_cli.specs.Mapping.{MapReply}
use Rattle.replies.proofs.Stopping.{said_end}
use Rattle.micro_cli.proofs.map_command.map_command.Goals as goal

pub returns-clause-ends : goal.returns-clause-ends
returns-clause-ends g c =
    said_end (MapReply c.args.src.now (g.S.Shelf.state c.args.shelf.now) (g.S.Shelf.state c.map_reply-end.new.shelf))
    c.map_reply-end.result
    (g.K.Sink.state c.args.out.now) (g.K.Sink.state c.say_end.new.out)
    c.say_end.result c.map_reply-end.ensures.reply c.say_end.ensures.says
