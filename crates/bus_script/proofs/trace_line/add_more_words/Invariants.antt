use Rattle.std.proofs.Common.{◌≡◌, ◌+◌, ◌*◌, ◌≤◌, ◌++◌, length, drop}
use Rattle.std.specs.Prelude.{codes}
use Rattle.std.specs.List.{flat_map}
use Rattle.bus_script.specs.TraceLine.{word_text}
use Rattle.bus_script.proofs.trace_line.add_more_words.Given as goal

abbrev pub invariant-loop-word : goal.invariant-loop-word
invariant-loop-word l = record {
  so_far : l.line.items ++ flat_map (λ word. codes "," ++ word_text l.slices word)
      (drop l.word-index l.words) ≡ l.initial.line.items ++ flat_map (λ word. codes "," ++ word_text l.slices word) l.words;
  len : length l.line.items ≤ length l.initial.line.items + 9 * l.word-index;
}
