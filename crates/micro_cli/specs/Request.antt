-- A request of the code, as a command.
use Rattle.std.specs.Prelude.{◌≤◌, length, Option, None, Some}
use Rattle.io_base.specs.declared.names.TheConstants.{GIVEN_NAME_LIMIT}
use Rattle.micro_cli.specs.declared.command_words.TheConstants.{CONFLICT_LIMIT}
use Rattle.micro_cli.specs.declared.command_words.Request.{Request}
use Rattle.micro_cli.specs.declared.command_words.Request.TheVariants as request
use Rattle.micro_cli.specs.Command.{Command, map, flow, run, make, check}

-- the command that is asked for
abbrev pub request_view : Request → Option Command
request_view (request.Map src) = Some (map src.now)
request_view (request.Flow src script clocks) = Some (flow src.now script.now clocks)
request_view (request.Run out script clocks) = Some (run out.now script.now clocks)
request_view (request.Make src script out clocks conflicts) = Some (make src.now script.now out.now clocks conflicts)
request_view (request.Check src refutation) = Some (check src.now refutation.now)
request_view request.Unknown = None

-- each name has at most 200 bytes, and the budget is at most 1,000,000
abbrev pub IsInRange : Request → Type 0
IsInRange (request.Map src) = length src.now ≤ GIVEN_NAME_LIMIT
IsInRange (request.Flow src script clocks) = (length src.now ≤ GIVEN_NAME_LIMIT) × (length script.now ≤ GIVEN_NAME_LIMIT)
IsInRange (request.Run out script clocks) = (length out.now ≤ GIVEN_NAME_LIMIT) × (length script.now ≤ GIVEN_NAME_LIMIT)
IsInRange (request.Make src script out clocks conflicts) =
    (length src.now ≤ GIVEN_NAME_LIMIT) × (length script.now ≤ GIVEN_NAME_LIMIT) × (length out.now ≤ GIVEN_NAME_LIMIT) × (conflicts ≤ CONFLICT_LIMIT)
IsInRange (request.Check src refutation) = (length src.now ≤ GIVEN_NAME_LIMIT) × (length refutation.now ≤ GIVEN_NAME_LIMIT)
IsInRange request.Unknown = Unit {0}
