use Rattle.std.proofs.Common.{◌≡◌, ◌++◌, take, flat_map}
use Rattle.ref_text.specs.Text.{literal_word}
use Rattle.ref_text.proofs.printing.add_literals.Given as goal

abbrev pub invariant-loop-lit : goal.invariant-loop-lit
invariant-loop-lit l = l.out.items ≡ l.fn.out.items ++ flat_map literal_word (take l.lit-index l.lits)
