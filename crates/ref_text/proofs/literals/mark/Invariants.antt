use Rattle.std.proofs.Common.{◌≡◌, ℕ, ◌-◌, length, map, take, true, false}
use Rattle.std.specs.Prelude.{slice_index_or}
use Rattle.ref_text.specs.Fault.{are_literals}
use Rattle.ref_text.specs.Form.{literal_of}
use Rattle.ref_text.specs.Marks.{are_met}
use Rattle.ref_text.proofs.literals.mark.Given as goal

abbrev pub invariant-loop-literal : goal.invariant-loop-literal
invariant-loop-literal l = record {
  apart : are_literals (length l.initial.marks - 1) (map literal_of (take l.literal-index l.literals)) ≡ true;
  sized : length l.marks ≡ length l.initial.marks;
  met : (v : ℕ) → slice_index_or l.marks v false ≡ are_met (take l.literal-index l.literals) v;
}
