use Rattle.std.proofs.Common.{◌≡◌, map, take}
use Rattle.ref_text.specs.Form.{literal_of}
use Rattle.ref_text.proofs.line_reader.keep_literals.Given as goal

abbrev pub invariant-loop-literal : goal.invariant-loop-literal
invariant-loop-literal l = l.clause.items ≡ map literal_of (take l.literal-index l.literals)
