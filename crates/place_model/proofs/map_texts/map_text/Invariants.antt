use Rattle.std.proofs.Common.{ℕ, List, drop, ◌++◌}
use Rattle.place_model.specs.MapText.{AreLines}
use Rattle.place_model.proofs.map_texts.map_text.Given as goal

-- what completes the text from here on completes it as a whole
abbrev pub invariant-loop-label : goal.invariant-loop-label
invariant-loop-label l =
    (tail : List ℕ) → AreLines l.placement (drop l.label l.program.instrs) (drop l.label l.placement) tail
    → AreLines l.placement l.program.instrs l.placement (l.text.items ++ tail)
