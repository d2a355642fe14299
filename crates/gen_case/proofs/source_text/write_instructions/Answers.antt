-- Each label's instruction grows the text, with five draws more.
use Rattle.std.proofs.Common.{◌≡◌, ℕ, ◌+◌, ◌*◌, List, ◌++◌, sym, ap, ◌∙◌, arith}
use Rattle.std.specs.Prelude.{map}
use Rattle.std.proofs.lemmas.List.{append-nil}
use Rattle.text_pieces.specs.PieceLines.{line_text, lines_text}
use Rattle.gen_case.specs.declared.choices.Choice.{Choice}
use Rattle.gen_case.specs.Draws.{state_after}
use Rattle.gen_case.specs.Choices.{choice_from, choice_of}
use Rattle.gen_case.specs.SourceText.{instruction_line, case_line}
use Rattle.gen_case.proofs.DrawLemmas.{no_draw, draws_add}
use Rattle.gen_case.proofs.TextLemmas.{each_push, labels_are}
use Rattle.gen_case.proofs.source_text.write_instructions.Goals as goal

pub loop-label-init : goal.loop-label-init
loop-label-init c = record { text = sym (append-nil c.args.text.now.items); state = sym (no_draw c.args.draws.now.state) }

pub loop-label-preserved : goal.loop-label-preserved
loop-label-preserved c =
    let s : ℕ = c.args.draws.now.state in
    let label : ℕ = c.loop-label.label in
    let chosen : c.choose-choice.result ≡ choice_of s label = c.choose-choice.ensures.choice
    ∙ ap choice_from c.loop-label.invariant.state in
    let five : 5 * label + 5 ≡ 5 * (label + 1) = omega arith in
    record {
      text = c.in_ok-write_instruction.ensures
          ∙ ap (λ (choice : Choice). c.loop-label.text.items ++ line_text (instruction_line label choice)) chosen
          ∙ each_push (case_line s) c.args.text.now.items label c.loop-label.text.items c.loop-label.invariant.text;
      state = c.choose-choice.ensures.state ∙ ap (λ (state : ℕ). state_after state 5) c.loop-label.invariant.state
          ∙ draws_add s (5 * label) 5 ∙ ap (state_after s) five;
    }

pub returns-clause-text : goal.returns-clause-text
returns-clause-text c =
    c.loop-label.invariant.text
    ∙ ap (λ (ls : List ℕ). c.args.text.now.items ++ lines_text (map (case_line c.args.draws.now.state) ls))
    (labels_are c.loop-label.label (omega arith))
