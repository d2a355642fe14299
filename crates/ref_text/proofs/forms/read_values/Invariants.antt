use Rattle.std.proofs.Common.{◌≡◌, length, drop}
use Rattle.ref_text.specs.Words.{words_of, values_of}
use Rattle.ref_text.proofs.WordLemmas.{onto}
use Rattle.ref_text.proofs.forms.read_values.Given as goal

abbrev pub invariant-loop-word : goal.invariant-loop-word
invariant-loop-word l = values_of (words_of l.line) ≡ onto l.values.items (values_of (drop (length l.yielded) (words_of l.line)))
