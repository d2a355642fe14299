use Rattle.io_base.proofs.SinkSteps.{prefix_added}
use Rattle.io_base.proofs.sinks.put_all.Goals as goal

pub returns-in-Err-clause-err : goal.returns-in-Err-clause-err
returns-in-Err-clause-err g c =
    prefix_added (g.K.Sink.state c.args.sink.now) (g.K.Sink.state c.pieces.sink) (g.K.Sink.state c.write.new.self)
    c.args.piece.now c.pieces.rest.now
    c.pieces.invariant.goes_on c.pieces.invariant.told c.in-Err.ensures.told
