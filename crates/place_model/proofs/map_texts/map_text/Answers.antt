-- Each label's line completes the text so far.
use Rattle.std.proofs.Common.{◌≡◌, ◌++◌, List, [], ℕ, arith, append_assoc, subst, sym, ◌∙◌, ap}
use Rattle.std.proofs.lemmas.Grind.{common_steps}
use Rattle.std.proofs.lemmas.List.{append-nil}
use Rattle.place_model.specs.MapText.{AreLines, map_line}
use Rattle.place_model.proofs.LineLemmas.{AreLines-step, AreLines-end}
use Rattle.place_model.proofs.map_texts.map_text.Goals as goal

pub loop-label-preserved : goal.loop-label-preserved
loop-label-preserved c = λ tail more.
    let place = c.args.placement.now in
    let instrs = c.args.program.now.instrs in
    let line = map_line c.instr.result.now.name c.cell-cell.result c.jump_of-jump.result in
    let grown : c.add_line.new.out.items ≡ c.loop-label.text.items ++ line = grind (arith, common_steps) in
    let P : List ℕ → Type 0 = λ text. AreLines place instrs place text in
    subst P (sym (ap (λ (text : List ℕ). text ++ tail) grown ∙ append_assoc c.loop-label.text.items line tail))
    (c.loop-label.invariant (line ++ tail)
    (AreLines-step place instrs place c.loop-label.label c.instr.result.now c.cell-cell.result c.jump_of-jump.result tail
    c.instr.ensures c.cell-cell.ensures (c.jump_of-jump.ensures c.instr.result.now c.cell-cell.result c.instr.ensures c.cell-cell.ensures)
    more))

pub returns : goal.returns
returns c =
    let place = c.args.placement.now in
    let instrs = c.args.program.now.instrs in
    let P : List ℕ → Type 0 = λ text. AreLines place instrs place text in
    subst P (append-nil c.loop-label.text.items)
    (c.loop-label.invariant [] (AreLines-end place instrs place c.loop-label.label (omega arith) (omega arith)))
