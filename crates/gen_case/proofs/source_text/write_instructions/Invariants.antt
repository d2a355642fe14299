-- The instructions of the labels before this one are written, with five draws for each.
use Rattle.std.proofs.Common.{◌≡◌, ◌*◌, ◌++◌}
use Rattle.std.specs.Prelude.{map}
use Rattle.text_pieces.specs.PieceLines.{lines_text}
use Rattle.gen_case.specs.Draws.{state_after}
use Rattle.gen_case.specs.Labels.{labels_below}
use Rattle.gen_case.specs.SourceText.{case_line}
use Rattle.gen_case.proofs.source_text.write_instructions.Given as goal

abbrev pub invariant-loop-label : goal.invariant-loop-label
invariant-loop-label l = record {
  text : l.text.items ≡ l.initial.text.items ++ lines_text (map (case_line l.initial.draws.state) (labels_below l.label));
  state : l.draws.state ≡ state_after l.initial.draws.state (5 * l.label);
}
