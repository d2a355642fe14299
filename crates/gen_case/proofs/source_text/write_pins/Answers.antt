-- Each pinned label's line grows the text.
use Rattle.std.proofs.Common.{ℕ, List, ◌++◌, ap, ◌∙◌, arith}
use Rattle.std.specs.Prelude.{map}
use Rattle.text_pieces.specs.PieceLines.{lines_text}
use Rattle.gen_case.specs.SourceText.{pin_line}
use Rattle.gen_case.proofs.TextLemmas.{pin_written, pin_left_out, pinned_are}
use Rattle.gen_case.proofs.source_text.write_pins.Goals as goal
use Rattle.gen_case.proofs.source_text.write_pins.Goals.{then-label-ne7+in_ok-write_pin, else-label-ne7}

pub loop-label-preserved : goal.loop-label-preserved
loop-label-preserved c = elim c.if-label-ne7.branch [
  | then-label-ne7+in_ok-write_pin w ↦
      ap (λ v. v.items) w.text-is ∙ w.in_ok-write_pin.ensures
      ∙ pin_written pin_line c.args.text.now.items c.loop-label.label c.loop-label.text.items w.if-label-ne7.true
      c.loop-label.invariant
  | else-label-ne7 w ↦ ap (λ v. v.items) w.text-is
      ∙ pin_left_out pin_line c.args.text.now.items c.loop-label.label c.loop-label.text.items w.if-label-ne7.false c.loop-label.invariant
]

pub returns : goal.returns
returns c =
    c.loop-label.invariant
    ∙ ap (λ (ls : List ℕ). c.args.text.now.items ++ lines_text (map pin_line ls)) (pinned_are c.loop-label.label (omega arith))
