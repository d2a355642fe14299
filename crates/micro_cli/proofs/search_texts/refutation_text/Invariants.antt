use Rattle.std.proofs.Common.{◌≡◌, ◌+◌, take}
use Rattle.ref_text.specs.Text.{lines_text}
use Rattle.micro_cli.proofs.search_texts.refutation_text.Given as goal

-- the lines so far
abbrev pub invariant-loop-line : goal.invariant-loop-line
invariant-loop-line l = record {
  number_is : l.number ≡ l.clauses + l.line-index;
  text_is : l.text.items ≡ lines_text (l.clauses + 1) (take l.line-index l.lines);
}
