-- The pins of the labels before this one are written.
use Rattle.std.proofs.Common.{◌≡◌, ◌++◌}
use Rattle.std.specs.Prelude.{map}
use Rattle.std.specs.List.{filter}
use Rattle.text_pieces.specs.PieceLines.{lines_text}
use Rattle.gen_case.specs.Labels.{labels_below, is_pinned}
use Rattle.gen_case.specs.SourceText.{pin_line}
use Rattle.gen_case.proofs.source_text.write_pins.Given as goal

abbrev pub invariant-loop-label : goal.invariant-loop-label
invariant-loop-label l = l.text.items ≡ l.initial.text.items ++ lines_text (map pin_line (filter is_pinned (labels_below l.label)))
