-- What a run that was given up leaves. This project's own choice.
use Rattle.std.specs.Prelude.{◌≡◌}
use Rattle.mcu_jumps.specs.Position.{Position}
use Rattle.io_base.specs.Causes.{Rose}
use Rattle.io_base.specs.Sink.{SinkState}
use Rattle.flow_sim.specs.declared.run_fault.RunFault.{RunFault}
use Rattle.flow_sim.specs.declared.run_fault.RunFault.TheVariants as faults

-- the cause of a fault, where only some cells may be refused: a write failed in this run; or the sink is as it was, and
-- the cell is one of these or memory was refused
abbrev pub IsCause : (Position → Type 0) → SinkState → SinkState → RunFault → Type 0
IsCause Refused old new faults.Failed = Rose old.faults new.faults
IsCause Refused old new (faults.ShiftMask cell) = Refused cell × (new ≡ old)
IsCause Refused old new faults.OutOfMemory = new ≡ old

-- no cell is refused
abbrev pub NoCell : Position → Type 0
NoCell cell = ⊥
