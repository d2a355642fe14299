-- The clocks before this one are written, with a draw for each.
use Rattle.std.proofs.Common.{◌≡◌}
use Rattle.std.specs.Prelude.{map}
use Rattle.std.specs.List.{range_with_len}
use Rattle.text_pieces.specs.PieceLines.{lines_text}
use Rattle.gen_case.specs.Draws.{state_after}
use Rattle.gen_case.specs.ScriptText.{clock_line, word_at}
use Rattle.gen_case.proofs.script_text.script_of.Given as goal

abbrev pub invariant-loop-clock : goal.invariant-loop-clock
invariant-loop-clock l = record {
  text : l.text.items ≡ lines_text (map (λ clock. clock_line (word_at l.initial.draws.state clock)) (range_with_len 0 l._clock));
  state : l.draws.state ≡ state_after l.initial.draws.state l._clock;
}
