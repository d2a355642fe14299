use Rattle.std.proofs.Common.{◌≡◌, ℕ, length, Some}
use Rattle.std.specs.Prelude.{slice_get}
use Rattle.mcu_jumps.specs.Position.{Position}
use Rattle.clause_base.specs.TruthValues.{truth_in}
use Rattle.placement_clauses.proofs.DecodeLemmas.{IsReadCell}
use Rattle.clause_encode.proofs.decoding.read_cells.Given as goal

abbrev pub invariant-loop-label : goal.invariant-loop-label
invariant-loop-label l = record {
  count : length l.cells.items ≡ l.label;
  cells : (i : ℕ) (p : Position) → slice_get l.cells.items i ≡ Some p → IsReadCell (truth_in l.model) i p;
}
