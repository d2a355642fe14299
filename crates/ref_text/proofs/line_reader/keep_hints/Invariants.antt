use Rattle.std.proofs.Common.{◌≡◌, map, take}
use Rattle.ref_text.specs.Form.{size_of}
use Rattle.ref_text.proofs.line_reader.keep_hints.Given as goal

abbrev pub invariant-loop-number : goal.invariant-loop-number
invariant-loop-number l = l.hints.items ≡ map size_of (take l.number-index l.numbers)
