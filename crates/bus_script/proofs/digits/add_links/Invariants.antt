use Rattle.std.proofs.Common.{◌≡◌, ◌+◌, ◌++◌, length}
use Rattle.bus_script.specs.TraceLine.{link_digits}
use Rattle.bus_script.proofs.digits.add_links.Given as goal

abbrev pub invariant-loop-slice : goal.invariant-loop-slice
invariant-loop-slice l =
    record {
      so_far : l.line.items ++ link_digits l.slice l.links ≡ l.initial.line.items ++ link_digits l.slices l.links;
      len : length l.line.items + l.slice ≡ length l.initial.line.items + l.slices;
    }
