-- The exit status of each way to end (this project's own choice).
use Rattle.std.specs.Prelude.{ℕ}
use Rattle.replies.specs.declared.status.Status.{Status}
use Rattle.replies.specs.declared.status.Status.TheVariants.{Done, Refuted, Undecided, Input, Words, ShelfFault, SinkFault, NoMemory, CheckNo}

-- the exit status
abbrev pub number_of_status : Status → ℕ
number_of_status Done = 0
number_of_status Refuted = 1
number_of_status Undecided = 2
number_of_status Input = 3
number_of_status Words = 4
number_of_status ShelfFault = 5
number_of_status SinkFault = 6
number_of_status NoMemory = 7
number_of_status CheckNo = 8
