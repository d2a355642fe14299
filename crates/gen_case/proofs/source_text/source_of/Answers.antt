-- Declarations, pins and instructions are the whole source.
use Rattle.std.proofs.Common.{sym, ◌∙◌}
use Rattle.std.specs.Prelude.{map}
use Rattle.text_pieces.specs.PieceLines.{lines_text}
use Rattle.gen_case.specs.Labels.{labels, pinned_labels}
use Rattle.gen_case.specs.SourceText.{header_lines, pin_line, case_line}
use Rattle.gen_case.proofs.TextLemmas.{source_is, joined}
use Rattle.gen_case.proofs.source_text.source_of.Goals as goal

pub returns-clause-text : goal.returns-clause-text
returns-clause-text c =
    joined c.new-text.result.items c.write_header.new.text.items c.write_pins.new.text.items c.write_instructions.new.text.items
    (lines_text header_lines) (lines_text (map pin_line pinned_labels)) (lines_text (map (case_line c.args.draws.now.state) labels))
    c.new-text.ensures.items c.in_ok-write_header.ensures c.in_ok-write_pins.ensures c.in_ok-write_instructions.ensures.text
    ∙ sym (source_is c.args.draws.now.state)
