-- Each clock's line grows the text, with one draw more.
use Rattle.std.proofs.Common.{◌≡◌, ℕ, suc, ◌+◌, List, [], ◌++◌, sym, ap, ◌∙◌, arith}
use Rattle.std.specs.Prelude.{map}
use Rattle.text_pieces.specs.PieceLines.{line_text, lines_text}
use Rattle.gen_case.specs.Draws.{next_state, state_after, drawn}
use Rattle.gen_case.specs.ScriptText.{clock_line, word_at}
use Rattle.gen_case.proofs.DrawLemmas.{no_draw, one_draw}
use Rattle.gen_case.proofs.TextLemmas.{each_push, clocks_are, script_is}
use Rattle.gen_case.proofs.script_text.script_of.Goals as goal

pub loop-clock-init : goal.loop-clock-init
loop-clock-init c = record { text = c.new-text.ensures.items; state = sym (no_draw c.args.draws.now.state) }

pub loop-clock-preserved : goal.loop-clock-preserved
loop-clock-preserved c =
    let s : ℕ = c.args.draws.now.state in
    let clock : ℕ = c.loop-clock._clock in
    let next : suc clock ≡ clock + 1 = omega arith in
    let after : c.draw.new.self.state ≡ state_after s (suc clock) = c.draw.ensures.state ∙ ap next_state c.loop-clock.invariant.state
    ∙ sym (one_draw s clock) in
    let word : c.draw.result ≡ word_at s clock = c.draw.ensures.drawn ∙ ap (λ (state : ℕ). drawn state 65536) after in
    record {
      text = c.in_ok-write_clock.ensures ∙ ap (λ (w : ℕ). c.loop-clock.text.items ++ line_text (clock_line w)) word
          ∙ each_push (λ (k : ℕ). clock_line (word_at s k)) [] clock c.loop-clock.text.items c.loop-clock.invariant.text;
      state = after ∙ ap (state_after s) next;
    }

pub returns : goal.returns
returns c =
    let s : ℕ = c.args.draws.now.state in
    c.loop-clock.invariant.text
    ∙ ap (λ (ks : List ℕ). lines_text (map (λ (k : ℕ). clock_line (word_at s k)) ks)) (clocks_are c.loop-clock._clock (omega arith))
    ∙ sym (script_is s)
