use Rattle.std.proofs.Common.{◌≡◌, ◌+◌, ◌++◌, length}
use Rattle.bus_script.specs.TraceLine.{hex_digits}
use Rattle.bus_script.proofs.digits.add_hex.Given as goal

abbrev pub invariant-loop-place : goal.invariant-loop-place
invariant-loop-place l =
    record {
      so_far : l.line.items ++ hex_digits l.place l.word ≡ l.initial.line.items ++ hex_digits l.digits l.word;
      len : length l.line.items + l.place ≡ length l.initial.line.items + l.digits;
    }
