-- What a sink in memory means.
use Rattle.io_base.specs.Calls.{Calls}
use Rattle.io_base.specs.Sink.{SinkState}

-- a sink in memory: what it means as a sink, and its writes
pub record MemSinkState : Type 0 where
  pub sink : SinkState
  pub writes : Calls
