use Rattle.std.proofs.Common.{ℕ, ◌≡◌, ◌+◌, List, ◌++◌, length, take, Some, suc, refl, sym, ap, ◌∙◌, arith, slice_get}
use Rattle.std.proofs.lemmas.Option.{slice_get_read}
use Rattle.ref_text.specs.Text.{line_text, lines_text}
use Rattle.ref_text.proofs.LinesText.{lines_more, lines_none}
use Rattle.micro_cli.proofs.search_texts.refutation_text.Goals as goal

pub loop-line-init : goal.loop-line-init
loop-line-init c = record { number_is = omega arith; text_is = c.new-text.ensures.items ∙ sym (lines_none (c.args.clauses + 1)) }

pub loop-line-preserved : goal.loop-line-preserved
loop-line-preserved c =
    let i = c.loop-line.line-index in
    let lines = c.args.lines.now in
    let line = c.line-item.result in
    let first = c.args.clauses + 1 in
    let at : slice_get lines i ≡ Some line = slice_get_read lines (length lines) i line refl c.loop-line-test.true c.line-item.is in
    let number : c.loop-line.number + 1 ≡ first + i = omega (arith, c.loop-line.invariant.number_is) in
    let next : suc i ≡ i + 1 = omega arith in
    record {
      number_is = omega (arith, c.loop-line.invariant.number_is);
      text_is = c.in_ok-print_line.ensures.ok
          ∙ ap (λ (text : List ℕ). text ++ line_text (c.loop-line.number + 1) line) c.loop-line.invariant.text_is
          ∙ ap (λ (n : ℕ). lines_text first (take i lines) ++ line_text n line) number
          ∙ sym (lines_more first lines i line at)
          ∙ ap (λ (k : ℕ). lines_text first (take k lines)) next;
    }
