-- What the tables of the earlier lines hold.
use Rattle.micro_asm.specs.declared.source_state.SourceState.TheInside.{Inside}
use Rattle.micro_asm.specs.Earlier.{Facts}

-- what the tables of the earlier lines hold
abbrev pub facts_in : Inside → Facts
facts_in state = record { declared = state.decl; rows = state.rows; start = state.start; pins = state.pins; instrs = state.instrs }
