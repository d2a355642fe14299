use Rattle.std.proofs.Common.{◌≡◌, ℕ, length, drop, true, false}
use Rattle.std.specs.Prelude.{slice_index_or}
use Rattle.ref_text.specs.Marks.{are_met}
use Rattle.ref_text.proofs.literals.unmark.Given as goal

abbrev pub invariant-loop-literal : goal.invariant-loop-literal
invariant-loop-literal l = record {
  sized : length l.marks ≡ length l.initial.marks;
  met : (v : ℕ) → slice_index_or l.marks v false ≡ true → are_met (drop l.literal-index l.literals) v ≡ true;
}
